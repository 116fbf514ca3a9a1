use Rattle.std.proofs.Common.{refl}
use Rattle.behaviour_semantics.specs.Solving.{settled}
use Rattle.worked_cases.proofs.ShownMenus.{menu, steps}
use Rattle.worked_cases.proofs.cases.a_disabling_ends_with_its_left_side.Goals as goal

pub returns : goal.returns
returns c = record {
  menu = menu _ _ 9 _ refl refl refl (settled _ refl refl, (settled _ refl refl, tt));
  goes_on = steps _ _ _ _ _ _ _ _ refl refl refl;
  begins = steps _ _ _ _ _ _ _ _ refl refl refl;
  next = menu _ _ 9 _ refl refl refl (settled _ refl refl, (settled _ refl refl, tt));
  ends = steps _ _ _ _ _ _ _ _ refl refl refl;
  still_begins = steps _ _ _ _ _ _ _ _ refl refl refl;
  end_menu = menu _ _ 9 _ refl refl refl (settled _ refl refl, (settled _ refl refl, tt));
  ends_by_the_right = steps _ _ _ _ _ _ _ _ refl refl refl;
  last = menu _ _ 9 _ refl refl refl tt;
}
