use Rattle.std.proofs.Common.{◌≡◌, map, drop}
use Rattle.std.specs.Prelude.{nat_eq}
use Rattle.type_definitions.specs.Presentation.{with_new}
use Rattle.type_definitions.specs.ProfiledImage.{number_in}
use Rattle.type_presentations.specs.MarksView.{IsKnown, marks_in}
use Rattle.type_presentations.proofs.marks.Marks.join.Given as goal

abbrev pub invariant-loop-number : goal.invariant-loop-number
invariant-loop-number l =
    IsKnown l.self
    × (with_new nat_eq (marks_in l.self) (map (number_in l.numbers) (drop l.number-index l.number-items))
    ≡ with_new nat_eq (marks_in l.fn.self) (map (number_in l.numbers) l.number-items))
