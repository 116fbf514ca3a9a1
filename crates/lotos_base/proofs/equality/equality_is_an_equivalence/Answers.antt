-- By recursion on the chain.
use Rattle.lotos_base.specs.Equality.{same_term}
use Rattle.lotos_base.proofs.EqualityLemmas.{equal_back, equal_then}
use Rattle.lotos_base.proofs.equality.equality_is_an_equivalence.Goals as goal

pub returns-clause-reflexive : goal.returns-clause-reflexive
returns-clause-reflexive c = λ data_ t. same_term t

pub returns-clause-symmetric : goal.returns-clause-symmetric
returns-clause-symmetric c = λ data_ t u e. equal_back e

pub returns-clause-transitive : goal.returns-clause-transitive
returns-clause-transitive c = λ data_ t u v e h. equal_then e h
