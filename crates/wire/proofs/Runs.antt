-- Whatever the faulty units send, there is a run.
use Rattle.std.proofs.Common.{◌≡◌, ℕ, zero, suc, ◌<◌, Bool, false, cond, List, map, length, get_or, Some, None, Option, sym, refl, ap, ◌∙◌, arith}
use Rattle.std.specs.List.{range_with_len}
use Rattle.std.proofs.lemmas.List.FromFn.{get_or-map-range_with_len}
use Rattle.std.proofs.lemmas.Bool.{cond-true, cond-false}
use Rattle.wire.specs.Boxes.{Box, from}
use Rattle.wire.specs.Runs.{ran, Played}
use Rattle.wire.specs.Units.{Honest}
use Rattle.wire.proofs.Counts.{honest_below}

module _ {S : Type 0} (frame : S → List ℕ) (after : S → Box → S) (honest : List Bool) (start : ℕ → S) (lie : ℕ → ℕ → ℕ → Option (List ℕ)) where
  -- what i takes of j in round k, when all are in the states st
  taken : (ℕ → S) → ℕ → ℕ → ℕ → Option (List ℕ)
  taken st i k j = cond (get_or honest j false) (Some (frame (st j))) (lie i k j)

  brought : (ℕ → S) → ℕ → ℕ → Box
  brought st i k = map (taken st i k) (range_with_len 0 (length honest))

  states : ℕ → ℕ → S
  states zero i = start i
  states (suc k) i = after (states k i) (brought (states k) i k)

  box : ℕ → ℕ → Box
  box i k = brought (states k) i k

  same_state : (i k : ℕ) → ran after (start i) (box i) k ≡ states k i
  unfolding states box
  same_state i zero = refl
  same_state i (suc k) = ap (λ s. after s (box i k)) (same_state i k)

  box_at : (i k j : ℕ) → j < length honest → from (box i k) j ≡ taken (states k) i k j
  unfolding box brought
  box_at i k j h = get_or-map-range_with_len (taken (states k) i k) 0 (length honest) j j None h (omega arith)

  takes_at : (i j k : ℕ) → Honest honest j → from (box i k) j ≡ Some (frame (ran after (start j) (box j) k))
  unfolding taken
  takes_at i j k h =
      box_at i k j (honest_below honest j h)
      ∙ cond-true (get_or honest j false) (Some (frame (states k j))) (lie i k j) h
      ∙ ap (λ s. Some (frame s)) (sym (same_state j k))

  lied_at : (i j k : ℕ) → j < length honest → get_or honest j false ≡ false → from (box i k) j ≡ lie i k j
  unfolding taken
  lied_at i j k h f = box_at i k j h ∙ cond-false (get_or honest j false) (Some (frame (states k j))) (lie i k j) f

  pub played : (rounds : ℕ) → Played frame after rounds honest start lie
  played rounds = record { box = box; takes = λ i j k hi hj l. takes_at i j k hj; lied = lied_at }
