use Rattle.std.proofs.Common.{refl}
use Rattle.behaviour_semantics.specs.Solving.{settled}
use Rattle.worked_cases.proofs.ShownMenus.{menu, steps}
use Rattle.worked_cases.proofs.cases.a_call_keeps_its_gates_apart.Goals as goal

pub returns : goal.returns
returns c = record {
  menu = menu _ _ 9 _ refl refl refl (settled _ refl refl, tt);
  first = steps _ _ _ _ _ _ _ _ refl refl refl;
  after_first = menu _ _ 9 _ refl refl refl (settled _ refl refl, tt);
  second = steps _ _ _ _ _ _ _ _ refl refl refl;
  after_second = menu _ _ 9 _ refl refl refl tt;
}
