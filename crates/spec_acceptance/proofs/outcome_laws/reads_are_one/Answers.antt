use Rattle.spec_acceptance.proofs.OneAnswer.{outcomes_over_texts_are_one, reads_are_one}
use Rattle.spec_acceptance.proofs.outcome_laws.reads_are_one.Goals as goal

pub returns-clause-outcomes : goal.returns-clause-outcomes
returns-clause-outcomes c = outcomes_over_texts_are_one

pub returns-clause-answers : goal.returns-clause-answers
returns-clause-answers c = reads_are_one
