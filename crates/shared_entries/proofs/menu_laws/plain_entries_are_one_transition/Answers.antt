use Rattle.shared_entries.proofs.InstanceLemmas.{plain_entries_are_one_transition}
use Rattle.shared_entries.proofs.menu_laws.plain_entries_are_one_transition.Goals as goal

pub returns : goal.returns
returns c = plain_entries_are_one_transition c.transitions_are_derived.ensures c.before_is_a_strict_order.ensures
