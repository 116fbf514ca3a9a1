-- By recursion on the term.
use Rattle.lotos_base.proofs.SubstitutionLemmas.{substituted_sort, ground_instance, substituted_occurs, occurs_substituted}
use Rattle.lotos_base.proofs.substitutions.instances_keep_sorts.Goals as goal

pub returns-clause-sorts : goal.returns-clause-sorts
returns-clause-sorts c = substituted_sort

pub returns-clause-ground : goal.returns-clause-ground
returns-clause-ground c = ground_instance

pub returns-clause-variables : goal.returns-clause-variables
returns-clause-variables c = λ n s values t. (
  (λ o. let from = substituted_occurs n s values t o in (from.number, from.sort, from.occurs, from.inside)),
  (λ from. occurs_substituted n s from.0 from.1 values t from.2 from.3),
)
