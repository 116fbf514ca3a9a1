-- Each case computes.
use Rattle.lotos_base.proofs.SignatureExampleLemmas.{twin_examples}
use Rattle.lotos_base.proofs.examples.twin_examples.Goals as goal

pub returns : goal.returns
returns c = twin_examples
