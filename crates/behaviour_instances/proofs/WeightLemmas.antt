-- Weights of behaviours: the parts of a form are lighter than the form.
use Rattle.std.proofs.Common.{◌≡◌, ◌<◌, ◌+◌, ◌*◌, ℕ, suc, ap, arith}
use Rattle.behaviour_semantics.specs.Behaviour.{Behaviour, stop, exit_with, action, inner_action, guard, choice, parallel, hide, enable, disable, let_be, choose_value, choose_gate, par_gate, call, relabel}
use Rattle.behaviour_tree.specs.BehaviourView.{behaviour_of}
use Rattle.behaviour_tree.specs.declared.behaviours.Beh.{Beh}

-- how many forms a behaviour has
abbrev pub weight : Behaviour → ℕ
weight stop = 1
weight (exit_with results) = 1
weight (action g offers test b) = suc (weight b)
weight (inner_action b) = suc (weight b)
weight (guard test b) = suc (weight b)
weight (choice b c) = suc (weight b + weight c)
weight (parallel meet b c) = suc (weight b + weight c)
weight (hide gates b) = suc (weight b)
weight (enable b variables c) = suc (weight b + weight c)
weight (disable b c) = suc (weight b + weight c)
weight (let_be bindings b) = suc (weight b)
weight (choose_value x b) = suc (weight b)
weight (choose_gate g gates b) = suc (weight b)
weight (par_gate g gates meet b) = suc (weight b)
weight (call number gates arguments) = 1
weight (relabel pairs b) = suc (weight b)

-- ---- Measures: an instance of a behaviour has four times its weight and one, in a box one more, inside a binder two more,
-- and a form has four times its weight.
pub form_lighter : (b form : Beh) (bound : ℕ) → b ≡ form → 4 * weight (behaviour_of b) + 1 ≡ bound → 4 * weight (behaviour_of form) < bound
form_lighter b form bound e h =
    let w : weight (behaviour_of b) ≡ weight (behaviour_of form) = ap (λ (x : Beh). weight (behaviour_of x)) e in omega (arith, w, h)

pub held_lighter : (x y : Beh) (bound : ℕ) → x ≡ y → 4 * weight (behaviour_of y) + 2 ≡ bound → 4 * weight (behaviour_of x) + 1 < bound
held_lighter x y bound e h =
    let w : weight (behaviour_of x) ≡ weight (behaviour_of y) = ap (λ (b : Beh). weight (behaviour_of b)) e in omega (arith, w, h)

pub below_inside : (w bound : ℕ) → 4 * w + 3 ≡ bound → 4 * w + 2 < bound
below_inside w bound h = omega (arith, h)

pub left_below : (w v bound : ℕ) → 4 * (w + v) + 3 ≡ bound → 4 * w + 2 < bound
left_below w v bound h = omega (arith, h)

pub right_below : (w v bound : ℕ) → 4 * (w + v) + 3 ≡ bound → 4 * v + 2 < bound
right_below w v bound h = omega (arith, h)

pub shared_part : (w bound : ℕ) → 4 * suc w ≡ bound → 4 * w + 2 < bound
shared_part w bound h = omega (arith, h)

pub inside_part : (w bound : ℕ) → 4 * suc w ≡ bound → 4 * w + 3 < bound
inside_part w bound h = omega (arith, h)

pub left_part : (w v bound : ℕ) → 4 * suc (w + v) ≡ bound → 4 * w + 2 < bound
left_part w v bound h = omega (arith, h)

pub right_part : (w v bound : ℕ) → 4 * suc (w + v) ≡ bound → 4 * v + 3 < bound
right_part w v bound h = omega (arith, h)
