-- Each case by computation, or by a chain of links.
use Rattle.lotos_base.proofs.ExampleLemmas.{substitution_examples}
use Rattle.lotos_base.proofs.examples.substitution_examples.Goals as goal

pub returns : goal.returns
returns c = substitution_examples
