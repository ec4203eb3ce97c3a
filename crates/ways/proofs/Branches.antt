-- Going over the stations but the first, each with its index.
use Rattle.std.proofs.Common.{◌≡◌, ℕ, ◌+◌, ◌-◌, ◌<◌, ◌≤◌, List, length, get_or, take, drop, ap, ◌∙◌, arith, length-drop, take_all}
use Rattle.std.proofs.lemmas.List.{get_or-drop, get_or_default}
use Rattle.tree.specs.declared.Station.{Station}
use Rattle.tree.specs.Stations.{nowhere, parent_of}

-- the stations but the first, as the code takes them
abbrev pub rest_of : List Station → List Station
rest_of ps = take (length ps - 1) (drop 1 ps)

module _ (ps : List Station) (n : ℕ) where
  all : rest_of ps ≡ drop 1 ps
  all = take_all (length ps - 1) (drop 1 ps) (omega (arith, length-drop 1 ps))

  -- where the next station stands
  pub next_branch : (s d : Station) → n < length (rest_of ps) → s ≡ get_or (rest_of ps) n d → (n + 1 < length ps) × (s.parent ≡ parent_of ps (n + 1))
  next_branch s d l is =
      let lt : n + 1 < length ps = omega (arith, ap length all, length-drop 1 ps) in
      let at : s ≡ get_or ps (1 + n) nowhere = is ∙ ap (λ (xs : List Station). get_or xs n d) all ∙ get_or-drop 1 ps n d ∙ get_or_default ps (1 + n) d nowhere (omega arith) in
      let first : 1 + n ≡ n + 1 = omega arith in
      (lt, ap (λ (q : Station). q.parent) at ∙ ap (parent_of ps) first)

  -- no other station is left
  pub no_branch : length (rest_of ps) ≤ n → length ps ≤ n + 1
  no_branch l = omega (arith, ap length all, length-drop 1 ps)
