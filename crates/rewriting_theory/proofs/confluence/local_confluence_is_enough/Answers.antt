-- By recursion on the bound of the chains.
use Rattle.rewriting_theory.proofs.NewmanLemmas.{newman}
use Rattle.rewriting_theory.proofs.confluence.local_confluence_is_enough.Goals as goal

pub returns : goal.returns
returns c = λ rules ends local. newman ends local
