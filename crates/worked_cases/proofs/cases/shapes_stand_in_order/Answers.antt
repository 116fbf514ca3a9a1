use Rattle.std.proofs.Common.{◌<◌, arith}
use Rattle.behaviour_semantics.specs.Shape.{act, at_gate, agree_act, agree_enabled_passed, Before, left_then_right, left_then_both, right_then_both, by_gate, in_first, in_second, in_enabled_passed, in_passed_enabled}
use Rattle.behaviour_semantics.proofs.OrderLemmas.{Before-irrefl, Before-trans}
use Rattle.worked_cases.proofs.cases.shapes_stand_in_order.Goals as goal

from_the_last : Before (at_gate 1 act) (at_gate 0 act) → ⊥
from_the_last h = Before-irrefl (at_gate 0 act) (Before-trans (at_gate 0 act) (at_gate 1 act) (at_gate 0 act)
    (by_gate (let lt : 0 < 1 = omega arith in lt)) h)

pub returns : goal.returns
returns c = record {
  left_first = left_then_right;
  right_next = right_then_both;
  left_before_both = left_then_both;
  by_position = by_gate (let lt : 0 < 1 = omega arith in lt);
  left_shape_counts = in_first left_then_right;
  then_right_shape = in_second agree_act left_then_right;
  one_variant = in_enabled_passed left_then_right;
  or_turned = in_passed_enabled left_then_right;
  agreeing_left_shapes = in_second (agree_enabled_passed agree_act) left_then_right;
  no_order_of_forms = λ h. elim h [ ];
  not_right_first = λ h. elim h [ ];
  not_both_first = λ h. elim h [ ];
  not_from_the_last = from_the_last;
}
