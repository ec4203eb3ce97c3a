-- How fast the graded line converges, with fewer faulty units than it is made for.
use Rattle.std.specs.Prelude.{◌≡◌, ℕ, suc, ◌-◌, ◌*◌, ◌<◌, ◌≤◌, Bool, true, not, List, map, count_by, ◌≢◌}
use Rattle.slot.specs.Positions.{position_coding}
use Rattle.wire.specs.Boxes.{Box}
use Rattle.wire.specs.Spreads.{Spread}
use Rattle.wire.specs.Units.{Honest}
use Rattle.trim.specs.Entries.{entry_of}
use Rattle.trim.specs.Iterations.{worst, graded_iterations}
use Rattle.trim.specs.Runs.{marked}
use Rattle.grading.specs.Gradings.{after}
use Rattle.line.specs.Models.{span_of, line_after, LineStart, Follow}
use Rattle.lines.specs.Gradeds.{graded_positions, thrice, graded_model}
use Rattle.lines.specs.declared.graded.Graded.{Graded}

-- unit i after k rounds
abbrev pub unit_after : ℕ → LineStart → (ℕ → ℕ → Box) → ℕ → ℕ → Graded
unit_after span st box i k = line_after graded_model (st.crew i) span (st.position i) (box i) k

-- the position that unit i holds after r iterations
abbrev pub position_after : ℕ → LineStart → (ℕ → ℕ → Box) → ℕ → ℕ → ℕ
position_after span st box r i = graded_model.result (unit_after span st box i (thrice r))

-- the list that unit i averages at the end of the iteration after r
abbrev pub averaged_list : ℕ → LineStart → (ℕ → ℕ → Box) → ℕ → ℕ → List ℕ
averaged_list span st box r i =
    map (entry_of (span_of span)) (graded_positions (after position_coding (unit_after span st box i (suc (suc (thrice r)))).grading (box i (suc (suc (thrice r))))))

-- two honest units average unequal lists in that iteration
abbrev pub UnequalLists : ℕ → List Bool → LineStart → (ℕ → ℕ → Box) → ℕ → Type 0
UnequalLists span honest st box r =
    (i : ℕ) × (j : ℕ) × Honest honest i × Honest honest j × (averaged_list span st box r i ≢ averaged_list span st box r j)

-- Where at most f units are faulty, f at most t or not:
pub record GradedConverges : Type 0 where
  -- after r iterations two honest positions differ by at most worst(span - 1, r, f)
  pub spread : (n t span : ℕ) (honest : List Bool) (st : LineStart) (box : ℕ → ℕ → Box) → Follow graded_model n t span honest st box →
      (f : ℕ) → count_by not honest ≤ f → (r : ℕ) → r ≤ graded_iterations n t (span_of span) →
      Spread honest (position_after span st box r) (worst (n - 2 * t) (span_of span - 1) r f)
  -- in at most f iterations do two honest units average unequal lists
  pub unequal : (n t span : ℕ) (honest : List Bool) (st : LineStart) (box : ℕ → ℕ → Box) → Follow graded_model n t span honest st box →
      (f : ℕ) → count_by not honest ≤ f → (unequal : ℕ → Bool) →
      ((r : ℕ) → r < graded_iterations n t (span_of span) → unequal r ≡ true → UnequalLists span honest st box r) →
      marked unequal (graded_iterations n t (span_of span)) ≤ f
