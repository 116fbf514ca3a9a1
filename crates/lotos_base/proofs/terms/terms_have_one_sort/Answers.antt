-- By cases on the head.
use Rattle.lotos_base.proofs.SortLemmas.{one_sort, sort_of_sorted}
use Rattle.lotos_base.proofs.terms.terms_have_one_sort.Goals as goal

pub returns-clause-unique : goal.returns-clause-unique
returns-clause-unique c = one_sort

pub returns-clause-by_the_head : goal.returns-clause-by_the_head
returns-clause-by_the_head c = sort_of_sorted
