use Rattle.std.proofs.Common.{List, ℕ, arith}
use Rattle.behaviour_semantics.specs.Draft.{above_variables}
use Rattle.sort_terms.specs.declared.sorted.Sorted.{Sorted}
use Rattle.term_match.specs.SubstView.{profiled_pairs}
use Rattle.menu_builder.specs.ClosedParts.{variables_given}
use Rattle.menu_builder.proofs.NumberLemmas.{covers_turn, step_past}
use Rattle.menu_builder.proofs.numbers.above_pairs.Goals as goal

pub loop-pair-preserved : goal.loop-pair-preserved
loop-pair-preserved c = (
  omega (arith, c.loop-pair.invariant.0, c.in_ok-above.ensures.least),
  covers_turn (λ (xs : List (ℕ × Sorted)). above_variables (variables_given (profiled_pairs xs)))
      c.deref-pair-items.result.now c.loop-pair.pair-index c.pair-item.result
      c.loop-pair.above c.in_ok-above.above c.loop-pair-test.true c.pair-item.is
      (λ n rest more less. step_past c.loop-pair.above c.pair-item.result.0 c.in_ok-above.above n (above_variables
      (variables_given (profiled_pairs rest))) c.in_ok-above.ensures.least c.in_ok-above.ensures.above more less)
      c.loop-pair.invariant.1,
)
