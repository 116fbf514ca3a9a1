use Rattle.behaviour_semantics.proofs.ListedMenus.{exact_list}
use Rattle.behaviour_semantics.proofs.listing.solved_lists_are_exact.Goals as goal

pub returns : goal.returns
returns c = exact_list
