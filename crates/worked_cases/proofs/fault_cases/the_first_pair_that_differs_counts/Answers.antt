use Rattle.std.proofs.Common.{refl}
use Rattle.worked_cases.proofs.fault_cases.the_first_pair_that_differs_counts.Goals as goal

pub returns : goal.returns
returns c = record {
  none = refl;
  first_pair = refl;
  second_pair = refl;
  another_sort = refl;
  another_count = refl;
  another_gate = refl;
  no_common_gate = refl;
  asked_values = refl;
}
