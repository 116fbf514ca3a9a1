use Rattle.std.proofs.Common.{refl}
use Rattle.behaviour_semantics.specs.Solving.{settled, replacing}
use Rattle.worked_cases.proofs.ShownMenus.{menu, steps}
use Rattle.worked_cases.proofs.cases.a_match_gives_the_value.Goals as goal

pub returns : goal.returns
returns c = record {
  menu = menu _ _ 9 _ refl refl refl (replacing _ _ _ refl refl (settled _ refl refl), tt);
  step = steps _ _ _ _ _ _ _ _ refl refl refl;
}
