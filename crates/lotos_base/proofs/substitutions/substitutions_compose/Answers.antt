-- By recursion on the term.
use Rattle.lotos_base.proofs.SubstitutionLemmas.{substituted_twice, substituted_variables}
use Rattle.lotos_base.proofs.substitutions.substitutions_compose.Goals as goal

pub returns-clause-composition : goal.returns-clause-composition
returns-clause-composition c = substituted_twice

pub returns-clause-identity : goal.returns-clause-identity
returns-clause-identity c = substituted_variables
