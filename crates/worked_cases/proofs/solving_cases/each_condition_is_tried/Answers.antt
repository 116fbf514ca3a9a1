use Rattle.std.proofs.Common.{refl}
use Rattle.behaviour_semantics.specs.Solving.{settled, replacing, unsolvable}
use Rattle.worked_cases.proofs.ShownMenus.{menu}
use Rattle.worked_cases.proofs.solving_cases.each_condition_is_tried.Goals as goal

pub returns : goal.returns
returns c = record {
  closed_later = menu _ _ 9 _ refl refl refl (unsolvable _ refl, tt);
  replaced_later = menu _ _ 9 _ refl refl refl (replacing _ _ _ refl refl (settled _ refl refl), tt);
  bare_right = menu _ _ 9 _ refl refl refl (replacing _ _ _ refl refl (settled _ refl refl), tt);
  canonical_label = menu _ _ 9 _ refl refl refl (replacing _ _ _ refl refl (settled _ refl refl), tt);
  canonical_leaves = menu _ _ 9 _ refl refl refl (replacing _ _ _ refl refl (replacing _ _ _ refl refl (settled _ refl refl)), tt);
}
