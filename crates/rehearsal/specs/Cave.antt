-- The example cave: legs ENT–A9, ENT–C1, C1–C2, C1–C3, C3–D1.
use Rattle.std.specs.Prelude.{true, List, [], ◌∷◌}
use Rattle.label.specs.declared.label.Label.{Label}
use Rattle.tree.specs.declared.Station.{Station}
use Rattle.tree.specs.Records.{Records}

abbrev pub label_a9 : Label
label_a9 = record { b0 = 65; b1 = 57; b2 = 32; b3 = 32; b4 = 32; b5 = 32; b6 = 32; b7 = 32; ok = λ _. true }

abbrev pub label_c1 : Label
label_c1 = record { b0 = 67; b1 = 49; b2 = 32; b3 = 32; b4 = 32; b5 = 32; b6 = 32; b7 = 32; ok = λ _. true }

abbrev pub label_c2 : Label
label_c2 = record { b0 = 67; b1 = 50; b2 = 32; b3 = 32; b4 = 32; b5 = 32; b6 = 32; b7 = 32; ok = λ _. true }

abbrev pub label_c3 : Label
label_c3 = record { b0 = 67; b1 = 51; b2 = 32; b3 = 32; b4 = 32; b5 = 32; b6 = 32; b7 = 32; ok = λ _. true }

abbrev pub label_d1 : Label
label_d1 = record { b0 = 68; b1 = 49; b2 = 32; b3 = 32; b4 = 32; b5 = 32; b6 = 32; b7 = 32; ok = λ _. true }

abbrev pub label_ent : Label
label_ent = record { b0 = 69; b1 = 78; b2 = 84; b3 = 32; b4 = 32; b5 = 32; b6 = 32; b7 = 32; ok = λ _. true }

-- its records in file order: ENT; A9, joined to ENT; C1, joined to ENT; C2 and C3, joined to C1; D1, joined to C3
abbrev pub example_records : Records
example_records = record { labels = label_ent ∷ label_a9 ∷ label_c1 ∷ label_c2 ∷ label_c3 ∷ label_d1 ∷ []; joins = 0 ∷ 0 ∷ 0 ∷ 2 ∷ 2 ∷ 4 ∷ [] }

-- its stations: in label order, each with its parent towards A9, the lowest label, and its depth
abbrev pub example_stations : List Station
example_stations = record { label = label_a9; parent = 0; depth = 1 } ∷ record { label = label_c1; parent = 5; depth = 3 } ∷ record { label = label_c2; parent = 1; depth = 4 }
    ∷ record { label = label_c3; parent = 1; depth = 4 } ∷ record { label = label_d1; parent = 3; depth = 5 } ∷ record { label = label_ent; parent = 0; depth = 2 } ∷ []
