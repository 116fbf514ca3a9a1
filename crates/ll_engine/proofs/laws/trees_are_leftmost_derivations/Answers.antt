use Rattle.ll_engine.proofs.Uniqueness.{trees_are_leftmost, leftmost_has_trees}
use Rattle.ll_engine.proofs.laws.trees_are_leftmost_derivations.Goals as goal

pub returns-clause-trees : goal.returns-clause-trees
returns-clause-trees c = trees_are_leftmost

pub returns-clause-derivations : goal.returns-clause-derivations
returns-clause-derivations c = leftmost_has_trees
