use Rattle.std.proofs.Common.{◌≡◌, drop}
use Rattle.type_presentations.specs.MarksView.{marks_in}
use Rattle.type_presentations.proofs.MarkedLemmas.{some_marked}
use Rattle.type_presentations.proofs.presentations.has_marked.Given as goal

abbrev pub invariant-loop-number : goal.invariant-loop-number
invariant-loop-number g l =
    some_marked (marks_in l.marks) l.number (drop l.number l.members) ≡ some_marked (marks_in l.marks) 0 l.members
