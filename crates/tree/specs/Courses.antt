-- The way between two stations, by indices: from the deeper one a leg towards the root, until they meet.
use Rattle.std.specs.Prelude.{ℕ, zero, suc, ◌+◌, cond, List, [], ◌∷◌, ◌++◌, ◌==◌, nat_lt}
use Rattle.tree.specs.declared.Station.{Station}
use Rattle.tree.specs.Stations.{parent_of, depth_of}

-- in at most f legs
abbrev pub course_of : (ℕ → ℕ) → (ℕ → ℕ) → ℕ → ℕ → ℕ → List ℕ
course_of up depth zero a b = a ∷ []
course_of up depth (suc f) a b = cond (a == b) (a ∷ []) (cond (nat_lt (depth a) (depth b)) (course_of up depth f a (up b) ++ b ∷ []) (a ∷ course_of up depth f (up a) b))

unfoldable pub course_from : List Station → ℕ → ℕ → List ℕ
course_from ps a b = course_of (parent_of ps) (depth_of ps) (depth_of ps a + depth_of ps b) a b
