use Rattle.std.proofs.Common.{refl}
use Rattle.behaviour_semantics.specs.Solving.{settled, replacing}
use Rattle.worked_cases.proofs.ShownMenus.{menu, steps}
use Rattle.worked_cases.proofs.cases.both_sides_end_together.Goals as goal

pub returns : goal.returns
returns c = record {
  sides = menu _ _ 9 _ refl refl refl (replacing _ _ _ refl refl (replacing _ _ _ refl refl (settled _ refl refl)), tt);
  menu = menu _ _ 9 _ refl refl refl (replacing _ _ _ refl refl (replacing _ _ _ refl refl (settled _ refl refl)), tt);
  step = steps _ _ _ _ _ _ _ _ refl refl refl;
  next = menu _ _ 9 _ refl refl refl (settled _ refl refl, tt);
}
