use Rattle.menu_builder.proofs.ClosedPartLemmas.{closed_parts}
use Rattle.menu_builder.proofs.laws.closed_parts_are_below.Goals as goal

pub returns : goal.returns
returns c = closed_parts
