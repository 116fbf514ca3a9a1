-- By recursion on the lists.
use Rattle.value_lists.proofs.TupleOrderLemmas.{not_before_itself}
use Rattle.value_lists.proofs.laws.tuples_are_listed_once.Goals as goal

pub returns : goal.returns
returns c = not_before_itself
