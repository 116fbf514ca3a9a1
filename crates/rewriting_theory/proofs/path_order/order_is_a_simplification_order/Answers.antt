-- By recursion on the derivation, and on the path.
use Rattle.rewriting_theory.proofs.OrderLemmas.{greater_inside, greater_instance, greater_subterm}
use Rattle.rewriting_theory.proofs.path_order.order_is_a_simplification_order.Goals as goal

pub returns-clause-contexts : goal.returns-clause-contexts
returns-clause-contexts c = greater_inside

pub returns-clause-substitution : goal.returns-clause-substitution
returns-clause-substitution c = greater_instance

pub returns-clause-subterms : goal.returns-clause-subterms
returns-clause-subterms c = greater_subterm
