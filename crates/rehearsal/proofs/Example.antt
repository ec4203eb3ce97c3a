-- The stations of the example cave are those of its records.
use Rattle.std.proofs.Common.{◌≡◌, ℕ, zero, suc, ◌<◌, ◌≤◌, ◌⊎◌, List, [], ◌∷◌, get_or, sym, refl, ap, ◌∙◌, ◌≢◌, inl, inr, arith, rules}
use Rattle.std.specs.List.{AllPairs, IsDistinct}
use Rattle.std.proofs.lemmas.Map.Made.{AllPairs-from_IsDistinct}
use Rattle.std.proofs.lemmas.Bool.Decides.{Decides-eqb}
use Rattle.label.specs.declared.label.Label.{Label}
use Rattle.label.specs.Orders.{key_of}
use Rattle.tree.specs.Records.{label_at, Different, Earlier}
use Rattle.tree.specs.Turned.{Linked, Settled}
use Rattle.tree.specs.Ranks.{Lowest, rank_of, ranked, Filled}
use Rattle.tree.specs.Stations.{nowhere, depth_of}
use Rattle.tree.specs.Caves.{Height}
use Rattle.tree.specs.Charts.{Charted}
use Rattle.tree.proofs.Charts.{charted}
use Rattle.tree.proofs.Meaning.{height_is}
use Rattle.rehearsal.specs.Cave.{example_records, example_stations}

-- a statement on each of six
six : (P : ℕ → Type 0) → P 0 → P 1 → P 2 → P 3 → P 4 → P 5 → (i : ℕ) → i < 6 → P i
six P a b c d e f zero l = a
six P a b c d e f (suc zero) l = b
six P a b c d e f (suc (suc zero)) l = c
six P a b c d e f (suc (suc (suc zero))) l = d
six P a b c d e f (suc (suc (suc (suc zero)))) l = e
six P a b c d e f (suc (suc (suc (suc (suc zero))))) l = f
six P a b c d e f (suc (suc (suc (suc (suc (suc i)))))) l = absurd (omega arith)

abbrev ls : List Label
ls = example_records.labels

abbrev js : List ℕ
js = example_records.joins

-- the parents and depths of the records, in file order; A9 is record 1
abbrev ups : List ℕ
ups = 1 ∷ 1 ∷ 0 ∷ 2 ∷ 2 ∷ 4 ∷ []

abbrev ds : List ℕ
ds = 2 ∷ 1 ∷ 3 ∷ 4 ∷ 4 ∷ 5 ∷ []

earlier : Earlier js
earlier k p l = six (λ i. 0 < i → get_or js i 0 < i) (λ q. absurd (omega arith)) (λ q. omega arith) (λ q. omega arith) (λ q. omega arith) (λ q. omega arith) (λ q. omega arith) k l p

-- the labels as numbers, in file order
key_list : List ℕ
key_list = 0x454E542020202020 ∷ 0x4139202020202020 ∷ 0x4331202020202020 ∷ 0x4332202020202020 ∷ 0x4333202020202020 ∷ 0x4431202020202020 ∷ []

key_is : (i : ℕ) → i < 6 → key_of (label_at ls i) ≡ get_or key_list i 0
unfolding key_list
key_is i l = six (λ k. key_of (label_at ls k) ≡ get_or key_list k 0) refl refl refl refl refl refl i l

apart : AllPairs (λ (x y : ℕ). x ≢ y) key_list
unfolding key_list IsDistinct
apart = AllPairs-from_IsDistinct Decides-eqb key_list (search rules)

different : Different ls
unfolding key_list
different i j lt l e = apart i j 0 lt l (sym (key_is i (omega arith)) ∙ ap key_of e ∙ key_is j l)

least : Lowest ls 1 6
unfolding key_list
least = (omega arith, λ j l. omega (arith, key_is 1 (omega arith), key_is j l, six (λ k. get_or key_list 1 0 ≤ get_or key_list k 0) (omega arith) (omega arith) (omega arith) (omega arith) (omega arith) (omega arith) j l))

settled : Settled js 1 ups ds
settled =
    record {
      top = refl;
      own = refl;
      linked = λ x l ne. six (λ k. (k ≡ 1 → ⊥) → Linked js ups ds k)
          (λ _. (omega arith, omega arith, refl, inr (omega arith, refl)))
          (λ q. absurd (q refl))
          (λ _. (omega arith, omega arith, refl, inl (omega arith, refl)))
          (λ _. (omega arith, omega arith, refl, inl (omega arith, refl)))
          (λ _. (omega arith, omega arith, refl, inl (omega arith, refl)))
          (λ _. (omega arith, omega arith, refl, inl (omega arith, refl)))
          x l ne;
      legs = λ x p l. six (λ k. 0 < k → (get_or ups (get_or js k 0) 0 ≡ k) ⊎ (get_or ups k 0 ≡ get_or js k 0))
          (λ q. absurd (omega arith)) (λ _. inl refl) (λ _. inr refl) (λ _. inr refl) (λ _. inr refl) (λ _. inr refl) x l p;
    }

filled : Filled ls ups ds example_stations 6
filled k l = six (λ i. get_or example_stations (rank_of ls (label_at ls i)) nowhere ≡ ranked ls ups ds i) refl refl refl refl refl refl k l

pub example_charted : Charted example_records example_stations
example_charted = charted ls js ups ds 1 example_stations (omega arith) (omega arith) refl (omega arith) earlier different least settled filled

pub example_height : Height example_stations 5
example_height = height_is example_stations example_charted.lawful 4 (omega arith) (six (λ k. depth_of example_stations k ≤ 5) (omega arith) (omega arith) (omega arith) (omega arith) (omega arith) (omega arith))
