-- By recursion on the path.
use Rattle.lotos_base.proofs.SubstitutionLemmas.{list_of-all_substituted, subterm-substituted, put_at-substituted}
use Rattle.lotos_base.proofs.substitutions.substitution_reaches_all_subterms.Goals as goal

pub returns-clause-arguments : goal.returns-clause-arguments
returns-clause-arguments c = list_of-all_substituted

pub returns-clause-subterms : goal.returns-clause-subterms
returns-clause-subterms c = subterm-substituted

pub returns-clause-replacements : goal.returns-clause-replacements
returns-clause-replacements c = put_at-substituted
