use Rattle.process_checks.specs.Distances.{reach_of}
use Rattle.process_checks.specs.Graph.{calls_at}
use Rattle.process_checks.specs.GraphView.{lists_of}
use Rattle.process_checks.proofs.CodeLemmas.{mark_added}
use Rattle.process_checks.proofs.distances.mark_callers.Goals as goal

pub loop-position-preserved : goal.loop-position-preserved
loop-position-preserved c =
    mark_added c.args.level c.loop-position.position (calls_at (lists_of c.args.callers.now.items) c.args.process)
    (reach_of c.loop-position.distances.items c.loop-position.next.items)
    (reach_of c.mark_caller.new.distances.items c.mark_caller.new.next.items) _ c.call_count-position-end.result
    c.loop-position-test.true c.call_count-position-end.ensures c.in_ok-mark_caller.ensures c.loop-position.invariant
