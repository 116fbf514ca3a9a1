use Rattle.std.proofs.Common.{refl}
use Rattle.behaviour_semantics.specs.Solving.{settled}
use Rattle.worked_cases.proofs.ShownMenus.{menu, steps}
use Rattle.worked_cases.proofs.value_cases.let_binds_together.Goals as goal

pub returns : goal.returns
returns c = record {
  in_order = menu _ _ 9 _ refl refl refl (settled _ refl refl, tt);
  menu = menu _ _ 9 _ refl refl refl (settled _ refl refl, tt);
  step = steps _ _ _ _ _ _ _ _ refl refl refl;
}
