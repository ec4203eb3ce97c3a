-- The links towards the root, as the list of the next stations and that of the depths.
use Rattle.std.specs.Prelude.{ℕ, List, map, Some, None, Option}
use Rattle.chart.specs.declared.link.Link.{Link}

-- a station without a link has 0 in both lists
abbrev pub up_of : Option Link → ℕ
up_of None = 0
up_of (Some l) = l.up

abbrev pub depth_of : Option Link → ℕ
depth_of None = 0
depth_of (Some l) = l.depth

abbrev pub ups_of : List (Option Link) → List ℕ
ups_of ls = map up_of ls

abbrev pub depths_of : List (Option Link) → List ℕ
depths_of ls = map depth_of ls
