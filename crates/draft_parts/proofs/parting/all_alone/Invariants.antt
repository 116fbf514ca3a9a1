use Rattle.std.proofs.Common.{drop}
use Rattle.behaviour_tree.specs.BehaviourView.{meet_of}
use Rattle.draft_parts.proofs.PartingLemmas.{AreAloneIf}
use Rattle.draft_parts.proofs.parting.all_alone.Given as goal

abbrev pub invariant-loop-draft : goal.invariant-loop-draft
invariant-loop-draft l = AreAloneIf (meet_of l.meet) (drop l.draft-index l.draft-items) l.draft-items
