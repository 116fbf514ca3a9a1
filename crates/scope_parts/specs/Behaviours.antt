-- Which behaviour a behaviour as it is written stands for, or the first rule that it breaks.
use Rattle.std.specs.Prelude.{ℕ, ◌+◌, List, [], ◌∷◌, ◌++◌, length, nat_eq, if◌then◌else◌}
use Rattle.lotos_base.specs.Signature.{Signature}
use Rattle.lotos_base.specs.Equation.{Place, Variable}
use Rattle.lotos_base.specs.WrittenTerm.{PlacedName, WrittenTerm}
use Rattle.syntax_trees.specs.WrittenBehaviour as written
use Rattle.syntax_trees.specs.WrittenBehaviour.{WrittenBehaviour, WrittenSign, choice_sign, interleaving, full_synchronisation, synchronising, disabling, enabling}
use Rattle.behaviour_semantics.specs.Behaviour.{Behaviour, stop, exit_with, action, inner_action, guard, choice, parallel, hide, enable, disable, let_be, call, no_gates, all_gates, at_gates, asked_variables, let_variables}
use Rattle.scope_parts.specs.ScopeFault.{gate_count, value_count}
use Rattle.scope_parts.specs.Resolution.{Resolution, resolved, faulty, and_then, Is, ThenResolves, Made}
use Rattle.scope_parts.specs.Scope.{Scope, Callable, gate_at, gates_at, bind_all, callable_named, found_process}
use Rattle.scope_parts.specs.Numbering.{Numbers, spelled_names, each_once, asked_for, choice_names, past_gates, past_variables, past}
use Rattle.scope_parts.specs.Sorts.{variables_at}
use Rattle.scope_parts.specs.Terms.{TestIs, TestOptionIs, ExitValuesAre, ValuesAre, LetIs, OffersAre}
use Rattle.scope_parts.specs.Choices.{choices_at, par_choices_at, under_gates, under_par, under_values}

-- the scope with more gates, numbered from a number on, and with more variables
abbrev pub with_gates : List (List ℕ) → ℕ → Scope → Scope
with_gates names next scope = record {
  gates = bind_all names next scope.gates;
  variables = scope.variables;
  processes = scope.processes;
}

abbrev pub with_variables : List Variable → Scope → Scope
with_variables variables scope = record {
  gates = scope.gates;
  variables = scope.variables ++ variables;
  processes = scope.processes;
}

-- numbers from a number on, one for each member of a list
abbrev pub numbers_from : {A : Type 0} → ℕ → List A → List ℕ
numbers_from next [] = []
numbers_from next (x ∷ xs) = next ∷ numbers_from (next + 1) xs

-- the process of a call, which is given its numbers of gates and values
abbrev pub counted_call : Place → ℕ → ℕ → Callable → Resolution Callable
counted_call place gates values callable =
    if nat_eq gates callable.gates
    then if nat_eq values (length callable.sorts)
    then resolved callable
    else faulty (value_count place (length callable.sorts) values)
    else faulty (gate_count place callable.gates gates)

abbrev pub called_at : Scope → Place → List ℕ → ℕ → ℕ → Resolution Callable
called_at scope place name gates values =
    and_then (found_process place name (callable_named scope.processes name)) (counted_call place gates values)

-- a call: its process and the counts, then its gates, then its values
abbrev pub CallIs : Signature → Scope → Place → List ℕ → List PlacedName → List WrittenTerm → Resolution Behaviour → Type 0
CallIs signature scope place name gates values =
    ThenResolves (Is (called_at scope place name (length gates) (length values)))
    (λ (callable : Callable). ThenResolves (Is (gates_at scope.gates gates))
    (λ numbers. Made (λ terms. call callable.number numbers terms) (ValuesAre signature scope.variables callable.sorts values)))

-- what a sign with a behaviour on its left and one on its right stands for. The right one is related to its resolution, given
-- the scope and the numbers that it is looked at with
abbrev pub SignIs : Signature → Scope → Numbers → WrittenSign → Behaviour → (Scope → Numbers → Resolution Behaviour → Type 0)
    → Resolution Behaviour → Type 0
SignIs signature scope numbers choice_sign left Right = Made (λ right. choice left right) (Right scope numbers)
SignIs signature scope numbers interleaving left Right = Made (λ right. parallel no_gates left right) (Right scope numbers)
SignIs signature scope numbers full_synchronisation left Right = Made (λ right. parallel all_gates left right) (Right scope numbers)
SignIs signature scope numbers (synchronising names) left Right =
    ThenResolves (Is (gates_at scope.gates names)) (λ gates. Made (λ right. parallel (at_gates gates) left right) (Right scope numbers))
SignIs signature scope numbers disabling left Right = Made (λ right. disable left right) (Right scope numbers)
SignIs signature scope numbers (enabling accepted) left Right =
    ThenResolves (Is (variables_at signature numbers.variable accepted))
    (λ variables. Made (λ right. enable left variables right)
    (Right (with_variables variables scope) (past_variables (length accepted) numbers)))

-- The behaviour is what is written, over the signature, where this is visible; its declarations are numbered from these
-- numbers on. The parts are looked at in the order of the text.
abbrev pub BehaviourIs : Signature → Scope → Numbers → WrittenBehaviour → Resolution Behaviour → Type 0
BehaviourIs signature scope numbers (written.stop place) = Is (resolved stop)
BehaviourIs signature scope numbers (written.exit place values) =
    Made (λ results. exit_with results) (ExitValuesAre signature scope.variables values)
BehaviourIs signature scope numbers (written.call place name gates values) = CallIs signature scope place name gates values
BehaviourIs signature scope numbers (written.action place gate offers test next) =
    ThenResolves (Is (gate_at scope.gates (record { place = place; name = gate })))
    (λ number. ThenResolves (OffersAre signature scope.variables numbers.variable offers)
    (λ given. ThenResolves (TestOptionIs signature (with_variables (asked_variables given) scope).variables test)
    (λ predicate. Made (λ behind. action number given predicate behind)
    (BehaviourIs signature (with_variables (asked_variables given) scope) (past_variables (length (asked_for offers)) numbers) next))))
BehaviourIs signature scope numbers (written.inner_action place next) =
    Made (λ behind. inner_action behind) (BehaviourIs signature scope numbers next)
BehaviourIs signature scope numbers (written.guard place test next) =
    ThenResolves (TestIs signature scope.variables test)
    (λ premiss. Made (λ behind. guard premiss behind) (BehaviourIs signature scope numbers next))
BehaviourIs signature scope numbers (written.hide place gates inside) =
    Made (λ within. hide (numbers_from numbers.gate (each_once (spelled_names gates))) within)
    (BehaviourIs signature (with_gates (each_once (spelled_names gates)) numbers.gate scope)
    (past_gates (length (each_once (spelled_names gates))) numbers) inside)
BehaviourIs signature scope numbers (written.let_be place values inside) =
    ThenResolves (LetIs signature scope.variables numbers.variable values)
    (λ bindings. Made (λ within. let_be bindings within)
    (BehaviourIs signature (with_variables (let_variables bindings) scope) (past_variables (length values) numbers) inside))
BehaviourIs signature scope numbers (written.choose_value place variables inside) =
    ThenResolves (Is (variables_at signature numbers.variable variables))
    (λ chosen. Made (λ within. under_values chosen within)
    (BehaviourIs signature (with_variables chosen scope) (past_variables (length variables) numbers) inside))
BehaviourIs signature scope numbers (written.choose_gate place gates inside) =
    ThenResolves (Is (choices_at scope.gates numbers.gate gates))
    (λ choices. Made (λ within. under_gates choices within)
    (BehaviourIs signature (with_gates (choice_names gates) numbers.gate scope) (past_gates (length gates) numbers) inside))
BehaviourIs signature scope numbers (written.par_gate place gates sign inside) =
    ThenResolves (Is (par_choices_at scope.gates numbers.gate sign gates))
    (λ pars. Made (λ within. under_par pars within)
    (BehaviourIs signature (with_gates (choice_names gates) numbers.gate scope) (past_gates (length gates) numbers) inside))
BehaviourIs signature scope numbers (written.binary place sign left right) =
    ThenResolves (BehaviourIs signature scope numbers left)
    (λ first. SignIs signature scope (past left numbers) sign first (λ inside behind. BehaviourIs signature inside behind right))
