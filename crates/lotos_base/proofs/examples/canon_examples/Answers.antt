-- Each law by recursion on the term.
use Rattle.lotos_base.proofs.CanonExampleLemmas.{canon_examples}
use Rattle.lotos_base.proofs.examples.canon_examples.Goals as goal

pub returns : goal.returns
returns c = canon_examples
