-- The way and the walk as lists of indices, one turn at a time.
use Rattle.std.proofs.Common.{◌≡◌, ℕ, ◌+◌, ◌-◌, ◌*◌, ◌<◌, ◌≤◌, List, [], ◌∷◌, ◌++◌, length, sym, ap, ◌∙◌, append_assoc, append-nil, arith, length-append}
use Rattle.tree.specs.declared.Station.{Station}
use Rattle.tree.specs.Stations.{parent_of, depth_of, Canonical}
use Rattle.tree.specs.Walks.{walk_from, tour_from}
use Rattle.tree.proofs.Sizes.{below}
use Rattle.tree.proofs.Turns.{walk_step, walk_length, level_falls, level_same, tour_left, tour_start, tour_yes, tour_no, tour_end, tour_length}

module _ (ps : List Station) (h : Canonical ps) (at : ℕ) (l : at < length ps) where
  pub walk_push : (old : List ℕ) → length old + length (walk_from ps at) ≤ 2047 → length old < 2047
  walk_push old room = omega (arith, walk_length ps h at l)

  pub walk_turn : (old mid : List ℕ) (t : ℕ) → length old + length (walk_from ps at) ≤ 2047 → mid ≡ old ++ at ∷ [] → 2 * below (length ps) (parent_of ps) (depth_of ps) at ≡ t
      → (2 * below (length ps) (parent_of ps) (depth_of ps) at - 1 < t) × ((at < length ps) × (length mid + length (tour_from ps at) ≤ 2047))
  walk_turn old mid t room pushed e = (level_same ps h at t l e, (l, omega (arith, walk_length ps h at l, ap length pushed, length-append old (at ∷ []))))

  -- a station is listed, and then its branches
  pub walk_listed : (old mid new : List ℕ) → mid ≡ old ++ at ∷ [] → new ≡ mid ++ tour_from ps at → new ≡ old ++ walk_from ps at
  walk_listed old mid new pushed listed =
      listed ∙ ap (λ (xs : List ℕ). xs ++ tour_from ps at) pushed ∙ append_assoc old (at ∷ []) (tour_from ps at) ∙ sym (ap (λ (xs : List ℕ). old ++ xs) (walk_step ps h at l))

-- the list so far, and what the branches from j on still give, are the old list and the whole tour of the station
abbrev pub StillGives : List Station → ℕ → ℕ → List ℕ → List ℕ → Type 0
StillGives ps at j walk old = walk ++ tour_left ps at j ≡ old ++ tour_from ps at

pub branches_start : (ps : List Station) (at : ℕ) (old : List ℕ) → StillGives ps at 1 old old
branches_start ps at old = ap (λ (xs : List ℕ). old ++ xs) (tour_start ps at)

-- one turn over the branches of a station: that at place n + 1, whose parent is read
module _ (ps : List Station) (at n parent : ℕ) (turn : (n + 1 < length ps) × (parent ≡ parent_of ps (n + 1))) (walk old : List ℕ) (gives : StillGives ps at (n + 1) walk old) where
  module _ (same : parent ≡ at) where
    up : parent_of ps (n + 1) ≡ at
    up = sym turn.1 ∙ same

    room_left : length walk + (length (walk_from ps (n + 1)) + 1) ≤ length old + length (tour_from ps at)
    room_left = omega (arith, simp length-append at (ap length gives), tour_length ps at (n + 1) turn.0 up)

    pub branch_turn : (h : Canonical ps) → at < length ps → length old + length (tour_from ps at) ≤ 2047 → (t : ℕ) → 2 * below (length ps) (parent_of ps) (depth_of ps) at - 1 ≡ t
        → (2 * below (length ps) (parent_of ps) (depth_of ps) (n + 1) < t) × ((n + 1 < length ps) × (length walk + length (walk_from ps (n + 1)) ≤ 2047))
    branch_turn h known room t e = (level_falls ps h at (n + 1) t known (omega arith) turn.0 up e, (turn.0, omega (arith, room_left)))

    pub branch_push : length old + length (tour_from ps at) ≤ 2047 → (mid : List ℕ) → mid ≡ walk ++ walk_from ps (n + 1) → length mid < 2047
    branch_push room mid listed = omega (arith, ap length listed, length-append walk (walk_from ps (n + 1)), room_left)

    -- a branch is listed, and the station again
    pub branch_listed : (mid new : List ℕ) → mid ≡ walk ++ walk_from ps (n + 1) → new ≡ mid ++ at ∷ [] → StillGives ps at (n + 1 + 1) new old
    branch_listed mid new listed pushed =
        let step = tour_yes ps at (n + 1) turn.0 up in
        rw (pushed, listed) (simp append_assoc (simp append_assoc at (sym (ap (λ (xs : List ℕ). walk ++ xs) step) ∙ gives)))

  pub branch_skipped : (parent ≡ at → ⊥) → StillGives ps at (n + 1 + 1) walk old
  branch_skipped ne = sym (ap (λ (xs : List ℕ). walk ++ xs) (tour_no ps at (n + 1) turn.0 (λ e. ne (turn.1 ∙ e)))) ∙ gives

pub branches_end : (ps : List Station) (at j : ℕ) (walk old : List ℕ) → StillGives ps at j walk old → length ps ≤ j → walk ≡ old ++ tour_from ps at
branches_end ps at j walk old gives le = sym (append-nil walk) ∙ sym (ap (λ (xs : List ℕ). walk ++ xs) (tour_end ps at j le)) ∙ gives
