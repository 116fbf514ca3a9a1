-- The gates at which a behaviour shows events: those of the actions in it that nothing hides, as relabellings and calls make them.
use Rattle.std.specs.Prelude.{◌≡◌, ◌⊎◌, ℕ, true, List, length, slice_get, Some}
use Rattle.lotos_base.specs.Term.{Term}
use Rattle.lotos_base.specs.Equation.{Data}
use Rattle.lotos_base.specs.Substitution.{is_listed}
use Rattle.behaviour_semantics.specs.Behaviour.{Behaviour, stop, exit_with, action, inner_action, guard, choice, parallel, hide, enable, disable, let_be, choose_value, choose_gate, par_gate, call, relabel, Process}
use Rattle.behaviour_semantics.specs.Label.{Label, inner_event, gate_event, exit_event, gate_under}
use Rattle.behaviour_semantics.specs.Shape.{Derivation}
use Rattle.behaviour_semantics.specs.Derives.{GivesMove}
use Rattle.behaviour_semantics.specs.WellFormed.{Every}

-- the gate is one of the list
abbrev pub IsOneOf : List ℕ → ℕ → Type 0
IsOneOf gates g = is_listed gates g ≡ true

-- The label is the inner event, a termination, or an event at a gate of this kind.
abbrev pub IsAt : (ℕ → Type 0) → Label → Type 0
IsAt IsGate inner_event = Unit {0}
IsAt IsGate (gate_event g values) = IsGate g
IsAt IsGate (exit_event values) = Unit {0}

-- The gates of the behaviour that nothing in it hides or binds are of this kind. A call gives its process a gate for each formal
-- gate.
abbrev pub UsesOnly : (ℕ → Type 0) → List Process → Behaviour → Type 0
UsesOnly IsGate processes stop = Unit {0}
UsesOnly IsGate processes (exit_with results) = Unit {0}
UsesOnly IsGate processes (action g offers test b) = IsGate g × UsesOnly IsGate processes b
UsesOnly IsGate processes (inner_action b) = UsesOnly IsGate processes b
UsesOnly IsGate processes (guard test b) = UsesOnly IsGate processes b
UsesOnly IsGate processes (choice b c) = UsesOnly IsGate processes b × UsesOnly IsGate processes c
UsesOnly IsGate processes (parallel meet b c) = UsesOnly IsGate processes b × UsesOnly IsGate processes c
UsesOnly IsGate processes (hide gates b) = UsesOnly (λ g. IsGate g ⊎ IsOneOf gates g) processes b
UsesOnly IsGate processes (enable b variables c) = UsesOnly IsGate processes b × UsesOnly IsGate processes c
UsesOnly IsGate processes (disable b c) = UsesOnly IsGate processes b × UsesOnly IsGate processes c
UsesOnly IsGate processes (let_be bindings b) = UsesOnly IsGate processes b
UsesOnly IsGate processes (choose_value x b) = UsesOnly IsGate processes b
UsesOnly IsGate processes (choose_gate h gates b) = Every IsGate gates × UsesOnly (λ g. IsGate g ⊎ (g ≡ h)) processes b
UsesOnly IsGate processes (par_gate h gates meet b) = Every IsGate gates × UsesOnly (λ g. IsGate g ⊎ (g ≡ h)) processes b
UsesOnly IsGate processes (call number gates arguments) =
    Every IsGate gates
    × ((process : Process) → slice_get processes number ≡ Some process → length process.gates ≡ length gates)
UsesOnly IsGate processes (relabel pairs b) = UsesOnly (λ g. IsGate (gate_under pairs g)) processes b

-- the body of the process uses its formal gates alone
abbrev pub UsesFormals : List Process → Process → Type 0
UsesFormals processes process = UsesOnly (IsOneOf process.gates) processes process.body

-- Where the bodies of all processes use their formal gates alone, moves stay at the gates of a behaviour, with values as they are
-- given and in canonical form.
abbrev pub MovesStayAtGates : Type 0
MovesStayAtGates =
    (data_ : Data) (represent : Term → Term) (processes : List Process) (gates : List ℕ) (b : Behaviour) (d : Derivation)
    (label : Label) (target : Behaviour) →
    Every (UsesFormals processes) processes →
    UsesOnly (IsOneOf gates) processes b →
    GivesMove data_ represent processes b d label target →
    IsAt (IsOneOf gates) label × UsesOnly (IsOneOf gates) processes target
