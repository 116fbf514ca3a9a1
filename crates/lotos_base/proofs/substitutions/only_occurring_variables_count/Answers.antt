-- By recursion on the term.
use Rattle.lotos_base.proofs.SubstitutionLemmas.{substituted_agree, substituted_ground}
use Rattle.lotos_base.proofs.substitutions.only_occurring_variables_count.Goals as goal

pub returns-clause-agreement : goal.returns-clause-agreement
returns-clause-agreement c = substituted_agree

pub returns-clause-ground : goal.returns-clause-ground
returns-clause-ground c = substituted_ground
