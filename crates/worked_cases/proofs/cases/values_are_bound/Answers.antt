use Rattle.std.proofs.Common.{refl}
use Rattle.behaviour_semantics.specs.Solving.{settled, replacing}
use Rattle.worked_cases.proofs.ShownMenus.{menu, steps}
use Rattle.worked_cases.proofs.cases.values_are_bound.Goals as goal

pub returns : goal.returns
returns c = record {
  let_menu = menu _ _ 9 _ refl refl refl (settled _ refl refl, tt);
  guard_menu = menu _ _ 9 _ refl refl refl (replacing _ _ _ refl refl (settled _ refl refl), tt);
  scope_menu = menu _ _ 9 _ refl refl refl (settled _ refl refl, tt);
  scope = steps _ _ _ _ _ _ _ _ refl refl refl;
  accept_menu = menu _ _ 9 _ refl refl refl (settled _ refl refl, tt);
  accept = steps _ _ _ _ _ _ _ _ refl refl refl;
  choice_menu = menu _ _ 9 _ refl refl refl (settled _ refl refl, tt);
  choice_scope = steps _ _ _ _ _ _ _ _ refl refl refl;
}
