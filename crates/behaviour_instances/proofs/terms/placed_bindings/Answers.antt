use Rattle.std.proofs.Common.{List, map, subst}
use Rattle.behaviour_semantics.specs.Behaviour.{let_terms}
use Rattle.sort_terms.specs.declared.equations.Variable.{Variable}
use Rattle.sort_terms.specs.declared.sorted.Sorted.{Sorted}
use Rattle.behaviour_tree.specs.BehaviourView.{let_of}
use Rattle.behaviour_tree.specs.Closed.{OccursInOne}
use Rattle.behaviour_instances.proofs.OccurrenceLemmas.{in_bindings}
use Rattle.behaviour_instances.proofs.terms.placed_bindings.Goals as goal

pub placed-requires : goal.placed-requires
placed-requires c n s o =
    c.requires n s (subst (λ (bs : List (Variable × Sorted)). OccursInOne n s (let_terms (map let_of bs)))
    c.deref-binding-items.ensures.value
    (in_bindings n s c.deref-binding-items.result.now c.loop-binding.binding-index c.binding-item.result c.loop-binding-test.true
    c.binding-item.is o))
