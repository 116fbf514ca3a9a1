use Rattle.tree_building.proofs.Viable.{rows_begin}
use Rattle.tree_building.proofs.laws.rows_begin_as_the_definition.Goals as goal

pub returns : goal.returns
returns c = rows_begin
