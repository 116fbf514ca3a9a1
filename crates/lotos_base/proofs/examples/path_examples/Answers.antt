-- Each case by computation, or by a chain of links.
use Rattle.lotos_base.proofs.ExampleLemmas.{path_examples}
use Rattle.lotos_base.proofs.examples.path_examples.Goals as goal

pub returns : goal.returns
returns c = path_examples
