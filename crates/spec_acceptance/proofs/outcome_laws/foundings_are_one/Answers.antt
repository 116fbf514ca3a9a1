use Rattle.spec_acceptance.proofs.OneAnswer.{foundings_over_texts_are_one}
use Rattle.spec_acceptance.proofs.outcome_laws.foundings_are_one.Goals as goal

pub returns : goal.returns
returns c = foundings_over_texts_are_one
