-- What is wrong in a behaviour: each fault by itself, whatever else is wrong before it or beside it. What sees a declaration is
-- looked at where the declaration is sound.
use Rattle.std.specs.Prelude.{◌≡◌, ◌≢◌, ◌⊎◌, ℕ, List, length, Option, None, Some}
use Rattle.lotos_base.specs.Signature.{Signature}
use Rattle.lotos_base.specs.Equation.{Place, Variable}
use Rattle.lotos_base.specs.WrittenTerm.{PlacedName, WrittenTerm}
use Rattle.syntax_trees.specs.WrittenBehaviour as written
use Rattle.syntax_trees.specs.WrittenBehaviour.{WrittenBehaviour, WrittenSign, choice_sign, interleaving, full_synchronisation, synchronising, disabling, enabling}
use Rattle.behaviour_semantics.specs.Behaviour.{Offer, asked_variables, let_variables}
use Rattle.lotos_base.specs.Term.{Term}
use Rattle.scope_parts.specs.ScopeFault.{ScopeFault, unknown_process, gate_count, value_count}
use Rattle.scope_parts.specs.Resolution.{faulty, Is}
use Rattle.scope_parts.specs.Scope.{Scope, Callable, callable_named, gate_at}
use Rattle.scope_parts.specs.Numbering.{Numbers, spelled_names, each_once, asked_for, choice_names, past_gates, past_variables, past}
use Rattle.scope_parts.specs.Sorts.{variables_at}
use Rattle.scope_parts.specs.Terms.{TestIs, TestOptionIs, LetIs, OffersAre}
use Rattle.scope_parts.specs.Behaviours.{with_gates, with_variables}
use Rattle.scope_parts.specs.PartFaults.{Seeing, GatesHave, VariablesHave, ExitValuesHave, ValuesHave, LetHas, OffersHave, ChoicesHave, SignsHave}

-- the process of a call, given its numbers of gates and values
abbrev pub CalledHas : Place → List ℕ → ℕ → ℕ → Option Callable → ScopeFault → Type 0
CalledHas place name gates values None fault = fault ≡ unknown_process place name
CalledHas place name gates values (Some called) fault =
    ((gates ≢ called.gates) × (fault ≡ gate_count place called.gates gates))
    ⊎ ((values ≢ length called.sorts) × (fault ≡ value_count place (length called.sorts) values))

-- the values of a call, where its process is known
abbrev pub ArgumentsHave : Signature → List Variable → Option Callable → List WrittenTerm → ScopeFault → Type 0
ArgumentsHave signature scope None values fault = ⊥
ArgumentsHave signature scope (Some called) values fault = ValuesHave signature scope called.sorts values fault

abbrev pub CallHas : Signature → Scope → Place → List ℕ → List PlacedName → List WrittenTerm → ScopeFault → Type 0
CallHas signature scope place name gates values fault =
    CalledHas place name (length gates) (length values) (callable_named scope.processes name) fault
    ⊎ (GatesHave scope.gates gates fault
    ⊎ ArgumentsHave signature scope.variables (callable_named scope.processes name) values fault)

-- a sign and what stands on its right, of which the scope and the numbers tell what it has
abbrev pub BehindSign : Signature → Scope → Numbers → WrittenSign → (Scope → Numbers → ScopeFault → Type 0) → ScopeFault → Type 0
BehindSign signature scope numbers choice_sign Right fault = Right scope numbers fault
BehindSign signature scope numbers interleaving Right fault = Right scope numbers fault
BehindSign signature scope numbers full_synchronisation Right fault = Right scope numbers fault
BehindSign signature scope numbers (synchronising names) Right fault = GatesHave scope.gates names fault ⊎ Right scope numbers fault
BehindSign signature scope numbers disabling Right fault = Right scope numbers fault
BehindSign signature scope numbers (enabling accepted) Right fault =
    VariablesHave signature numbers.variable accepted fault
    ⊎ Seeing (Is (variables_at signature numbers.variable accepted))
    (λ (variables : List Variable). Right (with_variables variables scope) (past_variables (length accepted) numbers)) fault

-- The fault is one of the behaviour, over the signature, where this is visible; its declarations are numbered from these
-- numbers on.
abbrev pub HasFault : Signature → Scope → Numbers → WrittenBehaviour → ScopeFault → Type 0
HasFault signature scope numbers (written.stop place) fault = ⊥
HasFault signature scope numbers (written.exit place values) fault = ExitValuesHave signature scope.variables values fault
HasFault signature scope numbers (written.call place name gates values) fault = CallHas signature scope place name gates values fault
HasFault signature scope numbers (written.action place gate offers test next) fault =
    (faulty fault ≡ gate_at scope.gates (record { place = place; name = gate }))
    ⊎ (OffersHave signature scope.variables numbers.variable offers fault
    ⊎ Seeing (OffersAre signature scope.variables numbers.variable offers)
    (λ (given : List Offer) f. TestOptionIs signature (with_variables (asked_variables given) scope).variables test (faulty f)
    ⊎ HasFault signature (with_variables (asked_variables given) scope) (past_variables (length (asked_for offers)) numbers) next f) fault)
HasFault signature scope numbers (written.inner_action place next) fault = HasFault signature scope numbers next fault
HasFault signature scope numbers (written.guard place test next) fault =
    TestIs signature scope.variables test (faulty fault) ⊎ HasFault signature scope numbers next fault
HasFault signature scope numbers (written.hide place gates inside) fault =
    HasFault signature (with_gates (each_once (spelled_names gates)) numbers.gate scope)
    (past_gates (length (each_once (spelled_names gates))) numbers) inside fault
HasFault signature scope numbers (written.let_be place values inside) fault =
    LetHas signature scope.variables numbers.variable values fault
    ⊎ Seeing (LetIs signature scope.variables numbers.variable values)
    (λ (bindings : List (Variable × Term)). HasFault signature (with_variables (let_variables bindings) scope)
    (past_variables (length values) numbers) inside) fault
HasFault signature scope numbers (written.choose_value place variables inside) fault =
    VariablesHave signature numbers.variable variables fault
    ⊎ Seeing (Is (variables_at signature numbers.variable variables))
    (λ (chosen : List Variable). HasFault signature (with_variables chosen scope) (past_variables (length variables) numbers) inside) fault
HasFault signature scope numbers (written.choose_gate place gates inside) fault =
    ChoicesHave scope.gates numbers.gate gates fault
    ⊎ HasFault signature (with_gates (choice_names gates) numbers.gate scope) (past_gates (length gates) numbers) inside fault
HasFault signature scope numbers (written.par_gate place gates sign inside) fault =
    (ChoicesHave scope.gates numbers.gate gates fault ⊎ SignsHave scope.gates numbers.gate sign gates fault)
    ⊎ HasFault signature (with_gates (choice_names gates) numbers.gate scope) (past_gates (length gates) numbers) inside fault
HasFault signature scope numbers (written.binary place sign left right) fault =
    HasFault signature scope numbers left fault
    ⊎ BehindSign signature scope (past left numbers) sign (λ inside behind. HasFault signature inside behind right) fault
