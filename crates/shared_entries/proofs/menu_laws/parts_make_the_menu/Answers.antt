use Rattle.shared_entries.proofs.PartMenuLemmas.{parts_make_the_menu}
use Rattle.shared_entries.proofs.menu_laws.parts_make_the_menu.Goals as goal

pub returns : goal.returns
returns c = parts_make_the_menu
