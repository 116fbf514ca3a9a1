-- By recursion on the terms.
use Rattle.lotos_base.proofs.TestLemmas.{Decides-term_eq, Decides-terms_eq, Decides-is_ground, Decides-occurs}
use Rattle.lotos_base.proofs.terms.tests_decide.Goals as goal

pub returns-clause-identity : goal.returns-clause-identity
returns-clause-identity c = Decides-term_eq

pub returns-clause-arguments : goal.returns-clause-arguments
returns-clause-arguments c = Decides-terms_eq

pub returns-clause-groundness : goal.returns-clause-groundness
returns-clause-groundness c = Decides-is_ground

pub returns-clause-occurrence : goal.returns-clause-occurrence
returns-clause-occurrence c = Decides-occurs
