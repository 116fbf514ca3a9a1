use Rattle.session_laws.proofs.TextExampleLemmas.{text_examples}
use Rattle.session_laws.proofs.texts.text_examples_hold.Goals as goal

pub returns : goal.returns
returns c = text_examples
