-- Each case by its members.
use Rattle.lotos_base.proofs.SignatureExampleLemmas.{signature_examples}
use Rattle.lotos_base.proofs.examples.signature_examples.Goals as goal

pub returns : goal.returns
returns c = signature_examples
