use Rattle.std.proofs.Common.{List, subst}
use Rattle.sort_terms.specs.declared.sorted.Sorted.{Sorted}
use Rattle.behaviour_tree.specs.BehaviourView.{terms_of}
use Rattle.behaviour_tree.specs.Closed.{OccursInOne}
use Rattle.behaviour_instances.proofs.OccurrenceLemmas.{in_terms}
use Rattle.behaviour_instances.proofs.terms.placed_terms.Goals as goal

pub placed-requires : goal.placed-requires
placed-requires c n s o =
    c.requires n s (subst (λ (ts : List Sorted). OccursInOne n s (terms_of ts)) c.deref-term-items.ensures.value
    (in_terms n s c.deref-term-items.result.now c.loop-term.term-index c.term-item.result c.loop-term-test.true c.term-item.is o))
