use Rattle.std.proofs.Common.{length}
use Rattle.behaviour_tree.specs.BehaviourView.{meet_of}
use Rattle.draft_parts.proofs.MetLemmas.{AreHalfMet}
use Rattle.draft_parts.proofs.sides.both_sides.Given as goal

abbrev pub invariant-loop-left : goal.invariant-loop-left
invariant-loop-left l =
    AreHalfMet (meet_of l.meet) l.first l.fn.lefts.items l.fn.rights.items l.rest.items l.others.items l.made.items

abbrev pub decreases-loop-left : goal.decreases-loop-left
decreases-loop-left l = length l.rest.items
