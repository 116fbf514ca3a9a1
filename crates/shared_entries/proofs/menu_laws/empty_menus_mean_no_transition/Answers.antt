use Rattle.shared_entries.proofs.InstanceLemmas.{empty_menus_mean_no_transition}
use Rattle.shared_entries.proofs.menu_laws.empty_menus_mean_no_transition.Goals as goal

pub returns : goal.returns
returns c = empty_menus_mean_no_transition c.transitions_are_derived.ensures
