use Rattle.std.proofs.Common.{refl}
use Rattle.behaviour_semantics.specs.Solving.{settled}
use Rattle.worked_cases.proofs.ShownMenus.{menu, steps}
use Rattle.worked_cases.proofs.cases.a_hidden_event_keeps_its_variable.Goals as goal

pub returns : goal.returns
returns c = record {
  menu = menu _ _ 9 _ refl refl refl (settled _ refl refl, tt);
  step = steps _ _ _ _ _ _ _ _ refl refl refl;
  next = menu _ _ 9 _ refl refl refl (settled _ refl refl, tt);
}
