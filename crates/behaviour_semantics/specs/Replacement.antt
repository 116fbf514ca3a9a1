-- Terms put for the free variables of a behaviour. A binder keeps its own numbers: `?x` binds in the test and the
-- behaviour after the action and not in its offers, `accept` on the right side, `let` and `choice x` in their body.
-- No binder is renamed: the terms are closed, or their variables have other numbers than the binders of the behaviour.
use Rattle.std.specs.Prelude.{List, [], ◌∷◌, map, zip, option_map}
use Rattle.lotos_base.specs.Term.{Term}
use Rattle.lotos_base.specs.Equation.{Variable}
use Rattle.lotos_base.specs.Substitution.{Substitution, substituted, binding, without}
use Rattle.behaviour_semantics.specs.Behaviour.{Behaviour, stop, exit_with, action, inner_action, guard, choice, parallel, hide, enable, disable, let_be, choose_value, choose_gate, par_gate, call, relabel, Test, Offer, give, ask, ExitValue, exit_value, any_of, asked_variables, numbers_of, let_variables}

-- The test with the terms put in.
abbrev pub test_with : Substitution → Test → Test
test_with values test = record { left = substituted values test.left; right = substituted values test.right }

-- The offer with the terms put in. An offer that asks has no term.
abbrev pub offer_with : Substitution → Offer → Offer
offer_with values (give t) = give (substituted values t)
offer_with values (ask x) = ask x

-- The value of an `exit` with the terms put in.
abbrev pub exit_value_with : Substitution → ExitValue → ExitValue
exit_value_with values (exit_value t) = exit_value (substituted values t)
exit_value_with values (any_of s) = any_of s

-- The behaviour with the terms put in for its free variables.
abbrev pub with_values : Substitution → Behaviour → Behaviour
with_values values stop = stop
with_values values (exit_with results) = exit_with (map (exit_value_with values) results)
with_values values (action g offers test b) =
    let inside : Substitution = without (numbers_of (asked_variables offers)) values in
    action g (map (offer_with values) offers) (option_map (test_with inside) test) (with_values inside b)
with_values values (inner_action b) = inner_action (with_values values b)
with_values values (guard test b) = guard (test_with values test) (with_values values b)
with_values values (choice b c) = choice (with_values values b) (with_values values c)
with_values values (parallel meet b c) = parallel meet (with_values values b) (with_values values c)
with_values values (hide gates b) = hide gates (with_values values b)
with_values values (enable b variables c) =
    enable (with_values values b) variables (with_values (without (numbers_of variables) values) c)
with_values values (disable b c) = disable (with_values values b) (with_values values c)
with_values values (let_be bindings b) =
    let_be (map (λ (bound : Variable × Term). (bound.0, substituted values bound.1)) bindings)
    (with_values (without (numbers_of (let_variables bindings)) values) b)
with_values values (choose_value x b) = choose_value x (with_values (without (x.number ∷ []) values) b)
with_values values (choose_gate g gates b) = choose_gate g gates (with_values values b)
with_values values (par_gate g gates meet b) = par_gate g gates meet (with_values values b)
with_values values (call process gates arguments) = call process gates (map (substituted values) arguments)
with_values values (relabel pairs b) = relabel pairs (with_values values b)

-- The substitution of the terms for the variables, one by one.
abbrev pub binding_of : List Variable → List Term → Substitution
binding_of variables terms = binding (zip (numbers_of variables) terms)
