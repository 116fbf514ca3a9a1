-- By recursion on the derivation.
use Rattle.rewriting_theory.proofs.OrderLemmas.{greater_occurs}
use Rattle.rewriting_theory.proofs.path_order.lesser_variables_occur.Goals as goal

pub returns : goal.returns
returns c = greater_occurs
