-- Shapes of derivations, and their order. A shape says which rules a derivation uses and where, and leaves out the
-- values that are chosen; a derivation is a shape with these values, its leaves, in preorder.
use Rattle.std.specs.Prelude.{◌<◌, ℕ, List}
use Rattle.lotos_base.specs.Term.{Term}

-- One variant for each rule: an action; an `exit`; `i`; a guard that holds; the left, the right or both sides of a
-- binary behaviour; a move under `hide`; a left side of `>>` that ended, and one that goes on; under `let`; a
-- value choice, whose value is a leaf; a gate choice by position; a called process; under a relabelling.
pub data Shape : Type 0 where
  act : Shape
  quit : Shape
  inner_step : Shape
  guarded : Shape → Shape
  left_side : Shape → Shape
  right_side : Shape → Shape
  both_sides : Shape → Shape → Shape
  hidden : Shape → Shape
  enabled : Shape → Shape
  passed : Shape → Shape
  let_bound : Shape → Shape
  with_value : Shape → Shape
  at_gate : ℕ → Shape → Shape
  called : Shape → Shape
  relabelled : Shape → Shape

-- A derivation. Its leaves stand in preorder: the value of a value choice before what is under it, the values of
-- an action's `?x` and of the `any` of an `exit` in order, left before right.
pub record Derivation : Type 0 where
  pub shape : Shape
  pub leaves : List Term

-- Two shapes are the same, where `enabled` and `passed` count as one variant.
pub data Agree : Shape → Shape → Type 0 where
  agree_act : Agree act act
  agree_quit : Agree quit quit
  agree_inner : Agree inner_step inner_step
  agree_guarded : {s t : Shape} → Agree s t → Agree (guarded s) (guarded t)
  agree_left : {s t : Shape} → Agree s t → Agree (left_side s) (left_side t)
  agree_right : {s t : Shape} → Agree s t → Agree (right_side s) (right_side t)
  agree_both : {s t u v : Shape} → Agree s u → Agree t v → Agree (both_sides s t) (both_sides u v)
  agree_hidden : {s t : Shape} → Agree s t → Agree (hidden s) (hidden t)
  agree_enabled : {s t : Shape} → Agree s t → Agree (enabled s) (enabled t)
  agree_passed : {s t : Shape} → Agree s t → Agree (passed s) (passed t)
  agree_enabled_passed : {s t : Shape} → Agree s t → Agree (enabled s) (passed t)
  agree_passed_enabled : {s t : Shape} → Agree s t → Agree (passed s) (enabled t)
  agree_let : {s t : Shape} → Agree s t → Agree (let_bound s) (let_bound t)
  agree_value : {s t : Shape} → Agree s t → Agree (with_value s) (with_value t)
  agree_gate : {k : ℕ} {s t : Shape} → Agree s t → Agree (at_gate k s) (at_gate k t)
  agree_called : {s t : Shape} → Agree s t → Agree (called s) (called t)
  agree_relabelled : {s t : Shape} → Agree s t → Agree (relabelled s) (relabelled t)

-- The first shape comes before the second: at the first node in preorder where they differ, left stands before
-- right, right before both, or the one gate before the other by position. `enabled` and `passed` count as one
-- variant, and no other difference gives an order.
pub data Before : Shape → Shape → Type 0 where
  left_then_right : {s t : Shape} → Before (left_side s) (right_side t)
  left_then_both : {s t u : Shape} → Before (left_side s) (both_sides t u)
  right_then_both : {s t u : Shape} → Before (right_side s) (both_sides t u)
  by_gate : {j k : ℕ} {s t : Shape} → j < k → Before (at_gate j s) (at_gate k t)
  in_guarded : {s t : Shape} → Before s t → Before (guarded s) (guarded t)
  in_left : {s t : Shape} → Before s t → Before (left_side s) (left_side t)
  in_right : {s t : Shape} → Before s t → Before (right_side s) (right_side t)
  in_first : {s t u v : Shape} → Before s u → Before (both_sides s t) (both_sides u v)
  in_second : {s t u v : Shape} → Agree s u → Before t v → Before (both_sides s t) (both_sides u v)
  in_hidden : {s t : Shape} → Before s t → Before (hidden s) (hidden t)
  in_enabled : {s t : Shape} → Before s t → Before (enabled s) (enabled t)
  in_passed : {s t : Shape} → Before s t → Before (passed s) (passed t)
  in_enabled_passed : {s t : Shape} → Before s t → Before (enabled s) (passed t)
  in_passed_enabled : {s t : Shape} → Before s t → Before (passed s) (enabled t)
  in_let : {s t : Shape} → Before s t → Before (let_bound s) (let_bound t)
  in_value : {s t : Shape} → Before s t → Before (with_value s) (with_value t)
  in_gate : {k : ℕ} {s t : Shape} → Before s t → Before (at_gate k s) (at_gate k t)
  in_called : {s t : Shape} → Before s t → Before (called s) (called t)
  in_relabelled : {s t : Shape} → Before s t → Before (relabelled s) (relabelled t)
