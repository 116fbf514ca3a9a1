use Rattle.direct_steps.proofs.GrownLemmas.{grown_none}
use Rattle.direct_steps.proofs.makers.grown.Goals as goal

pub loop-init : goal.loop-init
loop-init c =
    grown_none c.args.state.now c.in_ok-node.node c.node.result.now c.node.ensures c.in_ok-node.ensures.closed
    c.in_ok-node.ensures.same c.in_ok-node.ensures.terms c.requires
