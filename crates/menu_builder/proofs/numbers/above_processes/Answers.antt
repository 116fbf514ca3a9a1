use Rattle.std.proofs.Common.{List, map, arith}
use Rattle.behaviour_semantics.specs.Draft.{above, above_processes, above_variables}
use Rattle.behaviour_tree.specs.BehaviourView.{behaviour_of, variables_of}
use Rattle.behaviour_tree.specs.DefinitionView.{process_of}
use Rattle.behaviour_tree.specs.declared.definitions.Process.{Process}
use Rattle.menu_builder.proofs.NumberLemmas.{covers_turn, step_process}
use Rattle.menu_builder.proofs.numbers.above_processes.Goals as goal

pub loop-process-preserved : goal.loop-process-preserved
loop-process-preserved c = (
  omega (arith, c.loop-process.invariant.0, c.in_ok-above.ensures.least, c.in_ok-bound.ensures.least),
  covers_turn (λ (xs : List (Process)). above_processes (map process_of xs)) c.deref-process-items.result.now
      c.loop-process.process-index c.process-item.result
      c.loop-process.above c.in_ok-above.above c.loop-process-test.true c.process-item.is
      (λ n rest more less. step_process c.loop-process.above c.in_ok-bound.bound c.in_ok-above.above n (above_processes (map
      process_of rest)) (above_variables (variables_of c.process-item.result.parameters.items)) (above (behaviour_of
      c.process-item.result.body)) c.in_ok-bound.ensures.least c.in_ok-bound.ensures.above c.in_ok-above.ensures.least
      c.in_ok-above.ensures.above more less) c.loop-process.invariant.1,
)
