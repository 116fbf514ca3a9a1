-- By recursion on the greater term, then on the lesser one.
use Rattle.rewriting_theory.proofs.OrderLemmas.{greater_decided}
use Rattle.rewriting_theory.proofs.OrderTestLemmas.{greater_by_parts}
use Rattle.rewriting_theory.proofs.path_order.order_is_decided.Goals as goal

pub returns-clause-decided : goal.returns-clause-decided
returns-clause-decided c = greater_decided

pub returns-clause-by_parts : goal.returns-clause-by_parts
returns-clause-by_parts c = greater_by_parts
