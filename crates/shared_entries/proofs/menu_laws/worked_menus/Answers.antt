use Rattle.std.proofs.Common.{refl}
use Rattle.shared_entries.proofs.menu_laws.worked_menus.Goals as goal

pub returns : goal.returns
returns c = record {
  hidden_events = refl;
  enabled_events = refl;
  other_values = refl;
  both_sides_of = refl;
  relabelled_events = refl;
  gate_choice = refl;
  alone = refl;
  together = refl;
  ending = refl;
  joins_in_turn = refl;
  equal_values = refl;
}
