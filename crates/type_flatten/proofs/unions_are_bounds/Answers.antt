use Rattle.type_flatten.proofs.UnionBoundLemmas.{union_bounds}
use Rattle.type_flatten.proofs.unions_are_bounds.Goals as goal

pub returns : goal.returns
returns c = union_bounds
