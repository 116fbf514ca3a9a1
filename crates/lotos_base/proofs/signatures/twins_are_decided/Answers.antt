-- By recursion on the operations.
use Rattle.lotos_base.proofs.SignatureLemmas.{Decides-are_twins, Decides-has_twin, twins_mutual}
use Rattle.lotos_base.proofs.signatures.twins_are_decided.Goals as goal

pub returns-clause-pairs : goal.returns-clause-pairs
returns-clause-pairs c = Decides-are_twins

pub returns-clause-signatures : goal.returns-clause-signatures
returns-clause-signatures c = Decides-has_twin

pub returns-clause-mutual : goal.returns-clause-mutual
returns-clause-mutual c = twins_mutual
