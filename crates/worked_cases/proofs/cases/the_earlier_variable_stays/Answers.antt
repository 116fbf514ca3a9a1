use Rattle.std.proofs.Common.{refl}
use Rattle.behaviour_semantics.specs.Solving.{settled, replacing}
use Rattle.worked_cases.proofs.ShownMenus.{menu}
use Rattle.worked_cases.proofs.cases.the_earlier_variable_stays.Goals as goal

pub returns : goal.returns
returns c = record {
  menu = menu _ _ 9 _ refl refl refl (replacing _ _ _ refl refl (settled _ refl refl), tt);
}
