use Rattle.behaviour_tree.specs.BehaviourView.{meet_of}
use Rattle.draft_parts.proofs.MetLemmas.{AreMetSoFar}
use Rattle.draft_parts.proofs.sides.met_rights.Given as goal

abbrev pub invariant-loop-i : goal.invariant-loop-i
invariant-loop-i l = AreMetSoFar (meet_of l.meet) l.label l.later.items l.fn.rights.items l.rights.items l.made.items l.i
