use Rattle.std.proofs.Common.{refl}
use Rattle.behaviour_semantics.specs.Solving.{settled}
use Rattle.worked_cases.proofs.ShownMenus.{menu, steps}
use Rattle.worked_cases.proofs.value_cases.values_of_labels_stay.Goals as goal

pub returns : goal.returns
returns c = record {
  bound_menu = menu _ _ 9 _ refl refl refl (settled _ refl refl, tt);
  hidden_menu = menu _ _ 9 _ refl refl refl (settled _ refl refl, tt);
  under_hide = steps _ _ _ _ _ _ _ _ refl refl refl;
  relabelled_end_menu = menu _ _ 9 _ refl refl refl (settled _ refl refl, tt);
  relabelled_end_step = steps _ _ _ _ _ _ _ _ refl refl refl;
  relabelled_inner_step = steps _ _ _ _ _ _ _ _ refl refl refl;
  relabelled_value_step = steps _ _ _ _ _ _ _ _ refl refl refl;
}
