-- By recursion on the chain.
use Rattle.rewriting_theory.proofs.NewmanLemmas.{chain_of, reaches_of}
use Rattle.rewriting_theory.proofs.rewriting.chains_have_lengths.Goals as goal

pub returns : goal.returns
returns c = λ rules t u. ((λ reached. chain_of reached), (λ chain. reaches_of chain.1))
