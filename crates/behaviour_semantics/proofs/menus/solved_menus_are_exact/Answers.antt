use Rattle.behaviour_semantics.proofs.ExactMenus.{exact_menu}
use Rattle.behaviour_semantics.proofs.menus.solved_menus_are_exact.Goals as goal

pub returns : goal.returns
returns c = exact_menu
