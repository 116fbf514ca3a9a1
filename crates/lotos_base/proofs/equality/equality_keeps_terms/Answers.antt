-- By recursion on the chain.
use Rattle.lotos_base.proofs.SortLemmas.{equal_ground, equal_sort}
use Rattle.lotos_base.proofs.equality.equality_keeps_terms.Goals as goal

pub returns-clause-ground : goal.returns-clause-ground
returns-clause-ground c = λ data_ t u e h. equal_ground e h

pub returns-clause-sorts : goal.returns-clause-sorts
returns-clause-sorts c = λ data_ t u s sorted e h. equal_sort s sorted e h
