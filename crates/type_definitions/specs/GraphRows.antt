-- Rows of numbers as plain lists.
use Rattle.std.specs.Prelude.{ℕ, List, map, Vec}
use Rattle.std.specs.declared.alloc.Global.{Global}

abbrev pub graph_rows_of : List (Vec ℕ Global) → List (List ℕ)
graph_rows_of rows = map (λ (row : Vec ℕ Global). row.items) rows
