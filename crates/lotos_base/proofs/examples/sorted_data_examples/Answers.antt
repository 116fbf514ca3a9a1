-- Each case by its members.
use Rattle.lotos_base.proofs.SignatureExampleLemmas.{sorted_data_examples}
use Rattle.lotos_base.proofs.examples.sorted_data_examples.Goals as goal

pub returns : goal.returns
returns c = sorted_data_examples
