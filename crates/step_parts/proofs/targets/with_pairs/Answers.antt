use Rattle.std.proofs.Common.{vec_len}
use Rattle.behaviour_tree.proofs.EnvironmentLemmas.{one_turn}
use Rattle.step_parts.proofs.targets.with_pairs.Goals as goal

pub loop-variable-preserved : goal.loop-variable-preserved
loop-variable-preserved c =
    one_turn c.deref-variable-items.result.now c.loop-variable.variable-index c.variable-item.result c.loop-variable.pairs.items
    c.add_pair.new.pairs.items c.loop-variable.rest.items c.pop.new.self.items (vec_len c.loop-variable.rest) c.pop.result _
    c.loop-variable-test.true c.variable-item.is c.pop.ensures.items c.pop.ensures.variant c.loop-variable.rest.ok.0
    c.in_ok-add_pair.ensures c.loop-variable.invariant
