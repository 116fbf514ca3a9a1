-- By recursion on the term.
use Rattle.lotos_base.proofs.SubstitutionLemmas.{ground_no_variable, no_variable_ground}
use Rattle.lotos_base.proofs.terms.ground_means_no_variable.Goals as goal

pub returns : goal.returns
returns c = λ t. (ground_no_variable t, no_variable_ground t)
