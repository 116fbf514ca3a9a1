use Rattle.process_checks.specs.Graph.{calls_at}
use Rattle.process_checks.specs.GraphView.{lists_of}
use Rattle.process_checks.proofs.CodeLemmas.{call_added}
use Rattle.process_checks.proofs.distances.add_calls.Goals as goal

pub loop-position-preserved : goal.loop-position-preserved
loop-position-preserved c =
    call_added c.args.process c.loop-position.position (calls_at (lists_of c.args.graph.now.items) c.args.process)
    (lists_of c.loop-position.made.items) (lists_of c.add_call.new.made.items) _ c.call_count-position-end.result
    c.loop-position-test.true c.call_count-position-end.ensures c.in_ok-add_call.ensures c.loop-position.invariant
