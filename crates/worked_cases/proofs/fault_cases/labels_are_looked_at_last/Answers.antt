use Rattle.std.proofs.Common.{refl}
use Rattle.worked_cases.proofs.fault_cases.labels_are_looked_at_last.Goals as goal

pub returns : goal.returns
returns c = record {
  alone_at_a_common_gate = refl;
  below_before = refl;
  right_alone = refl;
  ended_with_another_sort = refl;
  not_passed = refl;
  not_ended = refl;
  passed_on = refl;
  below_before_passing = refl;
  ended_alone = refl;
}
