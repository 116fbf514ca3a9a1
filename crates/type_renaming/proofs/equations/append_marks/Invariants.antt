use Rattle.std.proofs.Common.{◌≡◌, ◌++◌, take}
use Rattle.type_presentations.specs.MarksView.{IsKnown, marks_in}
use Rattle.type_renaming.proofs.equations.append_marks.Given as goal

abbrev pub invariant-loop-number : goal.invariant-loop-number
invariant-loop-number l = IsKnown l.marks × (marks_in l.marks ≡ marks_in l.fn.marks ++ take l.number-index l.numbers)
