-- Irreflexive since every term is accessible; transitive by induction on the three terms.
use Rattle.rewriting_theory.proofs.OrderLemmas.{greater_irreflexive, greater_transitive, greater_asymmetric}
use Rattle.rewriting_theory.proofs.path_order.order_is_strict.Goals as goal

pub returns-clause-irreflexive : goal.returns-clause-irreflexive
returns-clause-irreflexive c = greater_irreflexive

pub returns-clause-transitive : goal.returns-clause-transitive
returns-clause-transitive c = greater_transitive

pub returns-clause-at_most_one : goal.returns-clause-at_most_one
returns-clause-at_most_one c = greater_asymmetric
