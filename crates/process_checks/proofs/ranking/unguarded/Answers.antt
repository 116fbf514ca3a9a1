use Rattle.std.proofs.Common.{◌≡◌, length, arith}
use Rattle.process_checks.specs.GraphView.{lists_of}
use Rattle.process_checks.proofs.CodeLemmas.{as_many_lists}
use Rattle.process_checks.proofs.RankLemmas.{cycle_below, none_below_next}
use Rattle.process_checks.proofs.ranking.unguarded.Goals as goal

pub loop-process-preserved : goal.loop-process-preserved
loop-process-preserved c =
    none_below_next (lists_of c.args.graph.now.items) c.in_ok-distances.distances.items c.loop-process.process
    c.in_ok-distances.ensures c.in_default.ensures c.loop-process.invariant

pub unreachable-requires : goal.unreachable-requires
unreachable-requires c =
    let many : length (lists_of c.args.graph.now.items) ≡ length c.args.graph.now.items = as_many_lists c.args.graph.now.items in
    cycle_below (lists_of c.args.graph.now.items) c.loop-process.process c.requires.cyclic c.loop-process.invariant
    (omega (arith, many, c.loop-process-test.false, c.len-process-end.ensures, c.args.graph.now.ok.0))
