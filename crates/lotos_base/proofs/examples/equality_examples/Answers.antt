-- Each case by computation, or by a chain of links.
use Rattle.lotos_base.proofs.EqualityExampleLemmas.{equality_examples}
use Rattle.lotos_base.proofs.examples.equality_examples.Goals as goal

pub returns : goal.returns
returns c = equality_examples
