-- By recursion on the terms.
use Rattle.value_lists.proofs.OrderLemmas.{not_before_itself, before_then, one_first, smaller_first}
use Rattle.value_lists.proofs.laws.values_are_ordered.Goals as goal

pub returns-clause-irreflexive : goal.returns-clause-irreflexive
returns-clause-irreflexive c = not_before_itself

pub returns-clause-transitive : goal.returns-clause-transitive
returns-clause-transitive c = before_then

pub returns-clause-total : goal.returns-clause-total
returns-clause-total c = λ signature s r t u h k. one_first signature t u s r h.sorted k.sorted h.ground k.ground

pub returns-clause-smaller : goal.returns-clause-smaller
returns-clause-smaller c = smaller_first
