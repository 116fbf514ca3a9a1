use Rattle.std.proofs.Common.{refl}
use Rattle.behaviour_semantics.specs.Solving.{settled}
use Rattle.worked_cases.proofs.ShownMenus.{menu, steps}
use Rattle.worked_cases.proofs.cases.a_target_stays_relabelled.Goals as goal

pub returns : goal.returns
returns c = record {
  call_menu = menu _ _ 9 _ refl refl refl (settled _ refl refl, tt);
  of_a_call = steps _ _ _ _ _ _ _ _ refl refl refl;
  relabelling_menu = menu _ _ 9 _ refl refl refl (settled _ refl refl, tt);
  of_a_relabelling = steps _ _ _ _ _ _ _ _ refl refl refl;
  stop_menu = menu _ _ 9 _ refl refl refl (settled _ refl refl, tt);
  of_stop = steps _ _ _ _ _ _ _ _ refl refl refl;
}
