use Rattle.std.proofs.lemmas.Result.{IfOk-weaker}
use Rattle.behaviour_semantics.specs.Shape.{left_side, right_side}
use Rattle.behaviour_tree.specs.BehaviourView.{meet_of}
use Rattle.draft_parts.proofs.MadeLemmas.{alone_made, both_made, two_lists}
use Rattle.draft_parts.proofs.parts.beside.Goals as goal

pub returns : goal.returns
returns c =
    IfOk-weaker c.joined-2.result _ _ (λ made e signature h k.
    two_lists signature c.in_ok-joined.field-0.items c.in_ok-both.both.items made.items _ _
    (two_lists signature c.in_ok-lefts.lefts.items c.in_ok-rights.rights.items c.in_ok-joined.field-0.items _ _
    (alone_made signature (meet_of c.args.meet.now) left_side c.args.lefts.items c.in_ok-left.left.alone.items
    c.in_ok-lefts.lefts.items c.in_ok-left.ensures.alone h (c.in_ok-lefts.ensures signature tt))
    (alone_made signature (meet_of c.args.meet.now) right_side c.args.rights.items c.in_ok-right.right.alone.items
    c.in_ok-rights.rights.items c.in_ok-right.ensures.alone k (c.in_ok-rights.ensures signature tt))
    c.in_ok-joined.ensures)
    (both_made signature (meet_of c.args.meet.now) c.args.first c.args.lefts.items c.args.rights.items c.in_ok-left.left.meeting.items
    c.in_ok-right.right.meeting.items c.in_ok-both.both.items c.in_ok-left.ensures.meeting c.in_ok-right.ensures.meeting h k
    (c.in_ok-both.ensures.same signature) (c.in_ok-both.ensures.over signature)) e) c.joined-2.ensures
