-- What a binary search by keys finds among the stations of a plan.
use Rattle.std.proofs.Common.{◌≡◌, ℕ, ◌<◌, ◌≤◌, List, length, ◌⊎◌, ⊎_elim, ap, Bool, is_some, Decides, Option, Some, None, Result, Ok, Err, sym, subst, arith}
use Rattle.std.specs.List.Sorted.{IsSearchInRange, IsBinarySearchResult, IsNonDecreasingBy}
use Rattle.std.specs.Ordering.{nat_cmp, ordering_index}
use Rattle.std.specs.Option.{option_zip}
use Rattle.std.specs.Result.{result_ok}
use Rattle.std.proofs.lemmas.Cmp.{ranked}
use Rattle.std.proofs.lemmas.List.Sorted.{IsNonDecreasingBy-from_default}
use Rattle.std.proofs.lemmas.Bool.{cases_lt}
use Rattle.std.proofs.lemmas.Bool.Decides.{nat_tests}
use Rattle.label.specs.declared.label.Label.{Label}
use Rattle.label.specs.Orders.{key_of}
use Rattle.label.proofs.Keys.{same_key}
use Rattle.tree.specs.declared.Station.{Station}
use Rattle.tree.specs.Stations.{nowhere, station_label, Ascending}
use Rattle.tree.specs.Caves.{Holds}
use Rattle.tree.specs.Index.{Found}
use Rattle.ways.specs.Calls.{BothFound}

module _ (ps : List Station) (ascending : Ascending ps) (a : Label) where
  -- the comparisons with a's key rise along the list
  rising : IsNonDecreasingBy (λ s. ordering_index (nat_cmp (key_of s.label) (key_of a))) ps
  rising = IsNonDecreasingBy-from_default (λ s. ordering_index (nat_cmp (key_of s.label) (key_of a))) ps nowhere (λ i j le l.
      let keys : key_of (station_label ps i) ≤ key_of (station_label ps j) = grind (arith, ascending i j, λ (same : i ≡ j). ap (λ (k : ℕ). key_of (station_label ps k)) same) in
      grind (arith, nat_tests))

  pub found_by_search : (r : Result ℕ ℕ) (o : Option ℕ) → IsSearchInRange r (length ps) → IsBinarySearchResult (λ s. nat_cmp (key_of s.label) (key_of a)) ps r → o ≡ result_ok r → Found ps a o
  found_by_search (Ok i) o l e is =
      subst (Found ps a) (sym is) (l, same_key (station_label ps i) a (ranked _ _ _ (sym (e nowhere))))
  found_by_search (Err i) o l e is =
      subst (Found ps a) (sym is) (λ (k, f). apart k f.0 (ap key_of f.1) (cases_lt k i))
    where
      apart : (k : ℕ) → k < length ps → key_of (station_label ps k) ≡ key_of a → (k < i) ⊎ (i ≤ k) → ⊥
      apart k lk same side =
          ⊎_elim
          (λ (lt : k < i). let less : key_of (station_label ps k) < key_of a = ranked _ _ _ (sym ((e rising).0 k nowhere (omega arith) lt)) in omega arith)
          (λ (le : i ≤ k). let more : key_of a < key_of (station_label ps k) = ranked _ _ _ (sym ((e rising).1 k nowhere le lk)) in omega arith)
          side

pub found_decides : (ps : List Station) (a : Label) (o : Option ℕ) (r : Bool) → r ≡ is_some o → Found ps a o → Decides r (Holds ps a)
found_decides ps a (Some i) r e f = ((λ _. (i, f)), (λ _. e))
found_decides ps a None r e f = ((λ t. cc), (λ h. absurd (f h)))

pub both_found : (ps : List Station) (a b : Label) (u v : Option ℕ) (r : Option (ℕ × ℕ)) → r ≡ option_zip u v → Found ps a u → Found ps b v → BothFound ps a b r
both_found ps a b (Some u) (Some v) r e f g = subst (BothFound ps a b) (sym e) (f, g)
both_found ps a b (Some u) None r e f g = subst (BothFound ps a b) (sym e) (λ _ k. g k)
both_found ps a b None v r e f g = subst (BothFound ps a b) (sym e) (λ k _. f k)
