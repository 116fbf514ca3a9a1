use Rattle.std.proofs.Common.{refl}
use Rattle.worked_cases.proofs.fault_cases.one_node_has_one_fault.Goals as goal

pub returns : goal.returns
returns c = record {
  none = refl;
  another_variant = refl;
  no_leaves = refl;
  too_few_before_bad = refl;
  bad_before_the_test = refl;
  first_bad_leaf = refl;
  not_ground = refl;
  no_term = refl;
  failing = refl;
  left_over = refl;
  left_over_last = refl;
}
