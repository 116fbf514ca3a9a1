use Rattle.shared_entries.proofs.KeptTreeLemmas.{joins_in_order}
use Rattle.shared_entries.proofs.menu_laws.joins_are_in_order.Goals as goal

pub returns : goal.returns
returns c = joins_in_order
