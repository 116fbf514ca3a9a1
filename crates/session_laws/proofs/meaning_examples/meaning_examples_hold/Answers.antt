use Rattle.session_laws.proofs.MeaningExampleLemmas.{meaning_examples}
use Rattle.session_laws.proofs.meaning_examples.meaning_examples_hold.Goals as goal

pub returns : goal.returns
returns c = meaning_examples
