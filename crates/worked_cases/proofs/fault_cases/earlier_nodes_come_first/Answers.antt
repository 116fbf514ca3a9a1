use Rattle.std.proofs.Common.{refl}
use Rattle.worked_cases.proofs.fault_cases.earlier_nodes_come_first.Goals as goal

pub returns : goal.returns
returns c = record {
  nothing_below = refl;
  below = refl;
  unsuited_above = refl;
  first_leaf = refl;
  second_leaf = refl;
  second_too_few = refl;
  first_too_few = refl;
  canonical = refl;
  third_gate = refl;
  second_gate = refl;
  no_process = refl;
  left_before_right = refl;
  right = refl;
  right_leaf = refl;
  right_too_few = refl;
  left_over = refl;
  left_over_last = refl;
  nodes_count = refl;
  nodes_of_a_call = refl;
}
