-- Each case by computation, or by a chain of links.
use Rattle.lotos_base.proofs.ExampleLemmas.{sorting_examples}
use Rattle.lotos_base.proofs.examples.sorting_examples.Goals as goal

pub returns : goal.returns
returns c = sorting_examples
