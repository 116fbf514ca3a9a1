use Rattle.ll_engine.proofs.Uniqueness.{one_tree, one_derivation}
use Rattle.ll_engine.proofs.laws.sentences_have_one_derivation.Goals as goal

pub returns-clause-tree : goal.returns-clause-tree
returns-clause-tree c = one_tree

pub returns-clause-derivation : goal.returns-clause-derivation
returns-clause-derivation c = one_derivation
