-- The marked numbers.
use Rattle.std.specs.Prelude.{◌≡◌, ℕ, nat_eq, List, []}
use Rattle.type_definitions.specs.Presentation.{with_new}
use Rattle.type_presentations.specs.declared.marks.Marks.{Marks}

-- the numbers in the order in which they were marked
abbrev pub marks_in : Marks → List ℕ
marks_in marks = marks.numbers.items

-- The set has the marked numbers, each once.
abbrev pub IsKnown : Marks → Type 0
IsKnown marks = marks.known.keys ≡ with_new nat_eq [] (marks_in marks)
