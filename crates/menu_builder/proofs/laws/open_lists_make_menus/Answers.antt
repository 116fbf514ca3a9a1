use Rattle.menu_builder.proofs.OpenMenuLemmas.{open_menus}
use Rattle.menu_builder.proofs.laws.open_lists_make_menus.Goals as goal

pub returns : goal.returns
returns c = open_menus
