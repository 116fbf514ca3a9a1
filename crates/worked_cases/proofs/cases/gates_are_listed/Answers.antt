use Rattle.std.proofs.Common.{refl}
use Rattle.behaviour_semantics.specs.Solving.{settled}
use Rattle.worked_cases.proofs.ShownMenus.{menu, steps}
use Rattle.worked_cases.proofs.cases.gates_are_listed.Goals as goal

pub returns : goal.returns
returns c = record {
  par_menu = menu _ _ 9 _ refl refl refl (settled _ refl refl, (settled _ refl refl, tt));
  step = steps _ _ _ _ _ _ _ _ refl refl refl;
  choice_menu = menu _ _ 9 _ refl refl refl (settled _ refl refl, (settled _ refl refl, tt));
  chosen = steps _ _ _ _ _ _ _ _ refl refl refl;
}
