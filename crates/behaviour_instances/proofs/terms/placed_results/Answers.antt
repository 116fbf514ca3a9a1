use Rattle.std.proofs.Common.{List, map, subst}
use Rattle.behaviour_tree.specs.BehaviourView.{exit_value_of}
use Rattle.behaviour_tree.specs.Closed.{OccursInResults}
use Rattle.behaviour_tree.specs.declared.behaviours.ExitValue.{ExitValue}
use Rattle.behaviour_instances.proofs.OccurrenceLemmas.{in_results}
use Rattle.behaviour_instances.proofs.terms.placed_results.Goals as goal

pub placed_result-requires : goal.placed_result-requires
placed_result-requires c n s o =
    c.requires n s (subst (λ (vs : List ExitValue). OccursInResults n s (map exit_value_of vs)) c.deref-value-items.ensures.value
    (in_results n s c.deref-value-items.result.now c.loop-value.value-index c.value-item.result c.loop-value-test.true c.value-item.is o))
