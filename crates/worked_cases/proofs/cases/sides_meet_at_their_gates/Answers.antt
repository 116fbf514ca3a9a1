use Rattle.std.proofs.Common.{refl}
use Rattle.behaviour_semantics.specs.Solving.{settled}
use Rattle.worked_cases.proofs.ShownMenus.{menu, steps}
use Rattle.worked_cases.proofs.cases.sides_meet_at_their_gates.Goals as goal

pub returns : goal.returns
returns c = record {
  everywhere_menu = menu _ _ 9 _ refl refl refl (settled _ refl refl, tt);
  everywhere = steps _ _ _ _ _ _ _ _ refl refl refl;
  nowhere_menu = menu _ _ 9 _ refl refl refl (settled _ refl refl, (settled _ refl refl, tt));
  nowhere = steps _ _ _ _ _ _ _ _ refl refl refl;
  at_b_menu = menu _ _ 9 _ refl refl refl (settled _ refl refl, tt);
  at_b = steps _ _ _ _ _ _ _ _ refl refl refl;
}
