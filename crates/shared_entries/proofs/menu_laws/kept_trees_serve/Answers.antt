use Rattle.shared_entries.proofs.KeptTreeLemmas.{keep_menus}
use Rattle.shared_entries.proofs.menu_laws.kept_trees_serve.Goals as goal

pub returns : goal.returns
returns c = keep_menus
