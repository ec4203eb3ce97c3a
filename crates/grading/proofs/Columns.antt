-- One sender's slot in rounds 2 and 3, at every unit.
use Rattle.std.proofs.Common.{◌≡◌, ℕ, ◌+◌, ◌-◌, ◌*◌, ◌≤◌, Bool, List, length, get_or, Some, None, Option, sym, refl, ap, ◌∙◌, ⊎_elim, arith}
use Rattle.slot.specs.Codings.{Coding, Lawful}
use Rattle.wire.specs.Slots.{holds, count, vote}
use Rattle.wire.specs.Units.{Honest, Faults}
use Rattle.wire.proofs.Counts.{agree, some_honest_lem, all_honest}
use Rattle.wire.proofs.Votes.{holds_is, holds_self, cases_same, two_values}
use Rattle.grading.specs.Grades.{grade_value, grade_of, GradedBy}
use Rattle.grading.specs.declared.grade.Grade.{Grade}
use Rattle.grading.specs.declared.grade.Grade.TheVariants.{Two, One, Zero}
use Rattle.grading.proofs.Grades.{votes, vote_none, graded_by, value_none}

-- second i and third i are what unit i holds of the sender's slot, by the frame's sender. Faulty units may have sent what
-- they like, and to each receiver another frame.
pub record Columns {K : Type 0} (c : Coding K) (n t : ℕ) (honest : List Bool) : Type 0 where
  pub faults : Faults n t honest
  pub second : ℕ → List (Option K)
  pub third : ℕ → List (Option K)
  pub second_size : (i : ℕ) → length (second i) ≡ n
  pub third_size : (i : ℕ) → length (third i) ≡ n
  pub second_sent : (i j k : ℕ) → Honest honest i → Honest honest j → Honest honest k → get_or (second j) i None ≡ get_or (second k) i None
  -- what i puts into the slot in round 3: its vote, or nothing where it distrusts the sender
  pub sent : ℕ → Option K
  pub third_sent : (i j : ℕ) → Honest honest i → Honest honest j → get_or (third j) i None ≡ sent i
  pub sent_votes : (i : ℕ) (v : K) → Honest honest i → sent i ≡ Some v → vote c (n - t) None (second i) ≡ Some v

module _ {K : Type 0} (c : Coding K) (l : Lawful c) where
  -- a grade tells a count
  value_reaches : (n t : ℕ) → 3 * t + 1 ≤ n → (col : List (Option K)) (v : K) (g : Grade K) → GradedBy c n t col g → grade_value g ≡ Some v → t + 1 ≤ count c v col
  value_reaches n t enough col v (Two w) b e = let s : w ≡ v = cc in omega (arith, b, ap (λ x. count c x col) s)
  value_reaches n t enough col v (One w) b e = let s : w ≡ v = cc in omega (arith, b.1, ap (λ x. count c x col) s)
  value_reaches n t enough col v Zero b e = let z : ◌≡◌ {A = ℕ} 0 1 = cc in absurd (omega arith)

  two_reaches : (n t : ℕ) (col : List (Option K)) (v : K) (g : Grade K) → GradedBy c n t col g → g ≡ Two v → n - t ≤ count c v col
  two_reaches n t col v (Two w) b e = let s : w ≡ v = cc in omega (arith, b, ap (λ x. count c x col) s)
  two_reaches n t col v (One w) b e = let z : ◌≡◌ {A = ℕ} 0 1 = cc in absurd (omega arith)
  two_reaches n t col v Zero b e = let z : ◌≡◌ {A = ℕ} 0 1 = cc in absurd (omega arith)

  -- a value that t + 1 carry has a grade, where it is the only one
  value_of : (n t : ℕ) → 3 * t + 1 ≤ n → (col : List (Option K)) (v : K) (g : Grade K) → GradedBy c n t col g → t + 1 ≤ count c v col
      → ((w : K) → t + 1 ≤ count c w col → w ≡ v) → grade_value g ≡ Some v
  value_of n t enough col v (Two w) b h single = ap Some (single w (omega arith))
  value_of n t enough col v (One w) b h single = ap Some (sym (b.2 v h))
  value_of n t enough col v Zero b h single = let x = b.1 v h in absurd (x.2 (single x.0 x.1))

  -- grade 2 where n - t carry the value
  two_of : (n t : ℕ) → 3 * t + 1 ≤ n → (col : List (Option K)) → length col ≡ n → (v : K) (g : Grade K) → GradedBy c n t col g → n - t ≤ count c v col → g ≡ Two v
  two_of n t enough col size v (Two w) b h =
      ⊎_elim (λ s. ap Two s) (λ ne. absurd (omega (arith, two_values c l w v ne col))) (cases_same c l w v)
  two_of n t enough col size v (One w) b h = absurd (omega (arith, b.0 v))
  two_of n t enough col size v Zero b h = absurd (omega (arith, b.0 v))

  module _ (n t : ℕ) (honest : List Bool) (r : Columns c n t honest) where
    by-counts : (j : ℕ) → GradedBy c n t (r.third j) (grade_of c n t (r.third j))
    by-counts j = graded_by c l n t (r.third j) (omega (arith, r.faults.enough))

    -- no two honest votes differ
    one-vote : (i j : ℕ) (v w : K) → Honest honest i → Honest honest j → vote c (n - t) None (r.second i) ≡ Some v → vote c (n - t) None (r.second j) ≡ Some w → v ≡ w
    one-vote i j v w hi hj ev ew =
        ⊎_elim (λ e. e) (λ ne. absurd (
        omega (
          arith,
          (votes c l (n - t) None (r.second i)).enough v ev,
          (votes c l (n - t) None (r.second j)).enough w ew,
          two_values c l v w ne (r.second j),
          r.second_size i,
          r.second_size j,
          r.faults.size,
          r.faults.few,
          r.faults.enough,
          agree (holds c v) None honest (r.second i) (r.second j) (r.second_size i ∙ sym r.faults.size) (r.second_size j ∙ sym r.faults.size) (λ k hk. r.second_sent k i j hk hi hj),
        )))
        (cases_same c l v w)

    -- what more than t round-3 frames carry, an honest unit sent
    honest-sent : (j : ℕ) (v : K) → Honest honest j → t + 1 ≤ count c v (r.third j) → (i : ℕ) × Honest honest i × (r.sent i ≡ Some v)
    honest-sent j v hj h =
        let s = some_honest_lem (holds c v) None honest (r.third j) (r.third_size j ∙ sym r.faults.size) (omega (arith, r.faults.few)) in
        (s.0, s.1, sym (r.third_sent s.0 j s.1 hj) ∙ holds_is c l v (get_or (r.third j) s.0 None) s.2)

    one-third : (j k : ℕ) (v w : K) → Honest honest j → Honest honest k → t + 1 ≤ count c v (r.third j) → t + 1 ≤ count c w (r.third k) → v ≡ w
    one-third j k v w hj hk hv hw =
        let a = honest-sent j v hj hv in
        let b = honest-sent k w hk hw in
        one-vote a.0 b.0 v w a.1 b.1 (r.sent_votes a.0 v a.1 a.2) (r.sent_votes b.0 w b.1 b.2)

    -- a sender that no honest unit votes for has grade 0
    ignored : (j : ℕ) → Honest honest j → ((i : ℕ) → Honest honest i → r.sent i ≡ None) → (o : Option K) → grade_value (grade_of c n t (r.third j)) ≡ o → o ≡ None
    ignored j hj h None e = refl
    ignored j hj h (Some v) e =
        let a = honest-sent j v hj (value_reaches n t r.faults.enough (r.third j) v (grade_of c n t (r.third j)) (by-counts j) e) in
        let b = a.2 in
        let d = h a.0 a.1 in
        let z : ◌≡◌ {A = ℕ} 0 1 = cc in
        absurd (omega arith)

    pub all-distrust : (j : ℕ) → Honest honest j → ((i : ℕ) → Honest honest i → r.sent i ≡ None) → grade_of c n t (r.third j) ≡ Zero
    all-distrust j hj h = value_none (grade_of c n t (r.third j)) (ignored j hj h (grade_value (grade_of c n t (r.third j))) refl)

    pub one_value : (v w : K) (j k : ℕ) → Honest honest j → Honest honest k
        → grade_value (grade_of c n t (r.third j)) ≡ Some v → grade_value (grade_of c n t (r.third k)) ≡ Some w → v ≡ w
    one_value v w j k hj hk ev ew =
        one-third j k v w hj hk
        (value_reaches n t r.faults.enough (r.third j) v (grade_of c n t (r.third j)) (by-counts j) ev)
        (value_reaches n t r.faults.enough (r.third k) w (grade_of c n t (r.third k)) (by-counts k) ew)

    -- honest frames are the same at both, so n - t here are at least t + 1 there
    carried-over : (v : K) (j k : ℕ) → Honest honest j → Honest honest k → n - t ≤ count c v (r.third j) → t + 1 ≤ count c v (r.third k)
    carried-over v j k hj hk h =
        omega (
          arith,
          r.faults.enough,
          r.faults.few,
          agree (holds c v) None honest (r.third j) (r.third k) (r.third_size j ∙ sym r.faults.size) (r.third_size k ∙ sym r.faults.size)
              (λ i hi. r.third_sent i j hi hj ∙ sym (r.third_sent i k hi hk)),
        )

    pub two-is-seen : (v : K) (j k : ℕ) → Honest honest j → Honest honest k → grade_of c n t (r.third j) ≡ Two v → grade_value (grade_of c n t (r.third k)) ≡ Some v
    two-is-seen v j k hj hk e =
        let h = carried-over v j k hj hk (two_reaches n t (r.third j) v (grade_of c n t (r.third j)) (by-counts j) e) in
        value_of n t r.faults.enough (r.third k) v (grade_of c n t (r.third k)) (by-counts k) h (λ w hw. one-third k k w v hk hk hw h)

    -- a value at every honest place of a column is carried by n - t
    settled : (v : K) (col : List (Option K)) → length col ≡ n → ((i : ℕ) → Honest honest i → get_or col i None ≡ Some v) → n - t ≤ count c v col
    settled v col size h =
        omega (arith, r.faults.size, r.faults.few, all_honest (holds c v) None honest col (size ∙ sym r.faults.size) (λ i hi. ap (holds c v) (h i hi) ∙ holds_self c l v))

    settled-vote : (v : K) (col : List (Option K)) → length col ≡ n → n - t ≤ count c v col → (o : Option K) → vote c (n - t) None col ≡ o → o ≡ Some v
    settled-vote v col size h None e = absurd (vote_none c l (n - t) col v (omega (arith, r.faults.enough)) h e)
    settled-vote v col size h (Some w) e =
        ⊎_elim (λ s. ap Some s) (λ ne. absurd (omega (arith, r.faults.enough, (votes c l (n - t) None col).enough w e, two_values c l w v ne col))) (cases_same c l w v)

    pub honest-sender : (v : K) → ((i j : ℕ) → Honest honest i → Honest honest j → get_or (r.second j) i None ≡ Some v)
        → ((i : ℕ) → Honest honest i → r.sent i ≡ vote c (n - t) None (r.second i))
        → (j : ℕ) → Honest honest j → grade_of c n t (r.third j) ≡ Two v
    honest-sender v h trust j hj =
        let voting : (i : ℕ) → Honest honest i → vote c (n - t) None (r.second i) ≡ Some v =
        λ i hi. settled-vote v (r.second i) (r.second_size i) (settled v (r.second i) (r.second_size i) (λ k hk. h k i hk hi)) (vote c (n - t) None (r.second i)) refl in
        let thirds = settled v (r.third j) (r.third_size j) (λ i hi. r.third_sent i j hi hj ∙ trust i hi ∙ voting i hi) in
        two_of n t r.faults.enough (r.third j) (r.third_size j) v (grade_of c n t (r.third j)) (by-counts j) thirds
