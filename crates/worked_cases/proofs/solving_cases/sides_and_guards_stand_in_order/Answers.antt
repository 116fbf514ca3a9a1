use Rattle.std.proofs.Common.{refl}
use Rattle.worked_cases.proofs.ShownMenus.{steps}
use Rattle.worked_cases.proofs.solving_cases.sides_and_guards_stand_in_order.Goals as goal

pub returns : goal.returns
returns c = record {
  guards = refl;
  sides = refl;
  places = steps _ _ _ _ _ _ _ _ refl refl refl;
  ended = steps _ _ _ _ _ _ _ _ refl refl refl;
}
