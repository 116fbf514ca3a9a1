use Rattle.std.proofs.Common.{sym}
use Rattle.behaviour_tree.specs.Placings.{values_of}
use Rattle.behaviour_tree.proofs.ActionLemmas.{same_actions, other_actions, behind}
use Rattle.behaviour_tree.proofs.part_equality.+same_parts.Goals as goal

pub returns-then-same_options : goal.returns-then-same_options
returns-then-same_options t c =
    behind (values_of c.args.here.now) (values_of c.args.there.now) _ _ c.args.part.now c.args.other.now
    (sym c.in-Action-Action.is-0) (sym c.in-Action-Action.is-1)
    (same_actions _ _ _ _ _ _ _ _ c.same_parts.result c.if-gate-other_gate.false
    (c.same_offers.ensures.0 c.if-not-same_offers.false) (c.same_options.ensures.0 c.if-same_options.true)
    (behind _ _ _ _ _ _ c.deref.ensures c.deref-then-same_options.ensures c.same_parts.ensures))

pub returns-else-same_options : goal.returns-else-same_options
returns-else-same_options t c =
    behind (values_of c.args.here.now) (values_of c.args.there.now) _ _ c.args.part.now c.args.other.now
    (sym c.in-Action-Action.is-0) (sym c.in-Action-Action.is-1)
    (other_actions _ _ _ _ _ _ _ _ c.same_options.result c.if-same_options.false c.same_options.ensures)
