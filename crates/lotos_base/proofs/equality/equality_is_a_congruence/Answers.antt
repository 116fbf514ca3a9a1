-- By recursion on the chain.
use Rattle.lotos_base.proofs.EqualityLemmas.{equal_inside, equal_under, equal_values}
use Rattle.lotos_base.proofs.equality.equality_is_a_congruence.Goals as goal

pub returns-clause-inside : goal.returns-clause-inside
returns-clause-inside c = λ data_ path t u whole before after e h k. equal_inside path whole before after e h k

pub returns-clause-under_operations : goal.returns-clause-under_operations
returns-clause-under_operations c = equal_under

pub returns-clause-instances : goal.returns-clause-instances
returns-clause-instances c = equal_values
