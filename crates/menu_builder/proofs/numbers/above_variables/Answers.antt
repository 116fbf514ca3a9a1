use Rattle.std.proofs.Common.{List, arith}
use Rattle.behaviour_semantics.specs.Draft.{above_variables}
use Rattle.sort_terms.specs.declared.equations.Variable.{Variable}
use Rattle.behaviour_tree.specs.BehaviourView.{variables_of}
use Rattle.menu_builder.proofs.NumberLemmas.{covers_turn, step_past}
use Rattle.menu_builder.proofs.numbers.above_variables.Goals as goal

pub loop-variable-preserved : goal.loop-variable-preserved
loop-variable-preserved c = (
  omega (arith, c.loop-variable.invariant.0, c.in_ok-above.ensures.least),
  covers_turn (λ (xs : List (Variable)). above_variables (variables_of xs)) c.deref-variable-items.result.now
      c.loop-variable.variable-index c.variable-item.result
      c.loop-variable.above c.in_ok-above.above c.loop-variable-test.true c.variable-item.is
      (λ n rest more less. step_past c.loop-variable.above c.variable-item.result.number c.in_ok-above.above n
      (above_variables (variables_of rest)) c.in_ok-above.ensures.least c.in_ok-above.ensures.above more less)
      c.loop-variable.invariant.1,
)
