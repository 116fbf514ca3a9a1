use Rattle.menu_builder.proofs.MenuNumberLemmas.{stands_below}
use Rattle.menu_builder.proofs.laws.nodes_stand_below.Goals as goal

pub returns : goal.returns
returns c = stands_below
