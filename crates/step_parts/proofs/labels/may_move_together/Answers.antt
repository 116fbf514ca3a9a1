use Rattle.std.proofs.Common.{sym, ◌∙◌}
use Rattle.behaviour_tree.specs.BehaviourView.{meet_of}
use Rattle.draft_parts.proofs.MeetingLemmas.{together_told}
use Rattle.step_parts.proofs.labels.may_move_together.Goals as goal

pub returns : goal.returns
returns c = λ signature h k.
    c.may_meet.ensures ∙ sym (together_told signature (meet_of c.args.meet.now) c.args.left.now c.args.right.now h k)
