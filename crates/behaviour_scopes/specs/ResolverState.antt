-- What is known where a behaviour stands: the signature, the names of the gates that were declared so far, what is visible,
-- and the numbers of the next variable and the next process; and what is known behind it.
use Rattle.std.specs.Prelude.{ℕ, ◌+◌, ◌-◌, List, [], ◌++◌, length, take, drop}
use Rattle.lotos_base.specs.Signature.{Signature}
use Rattle.lotos_base.specs.Equation.{Variable}
use Rattle.syntax_trees.specs.WrittenBehaviour.{WrittenBehaviour}
use Rattle.behaviour_semantics.specs.Behaviour.{Behaviour}
use Rattle.scope_parts.specs.Resolution.{Resolution}
use Rattle.scope_parts.specs.Scope.{Scope}
use Rattle.scope_parts.specs.Numbering.{Numbers, gates_in, variable_count}
use Rattle.scope_parts.specs.GatesDeclared.{Gates, declared}
use Rattle.scope_parts.specs.Behaviours.{BehaviourIs, with_variables}

pub record State : Type 0 where
  pub signature : Signature
  pub names : List (List ℕ)
  pub scope : Scope
  pub variable : ℕ
  pub process : ℕ

-- before the first declaration of a text
abbrev pub nothing_declared : Signature → State
nothing_declared signature = record {
  signature = signature;
  names = [];
  scope = record { gates = []; variables = []; processes = [] };
  variable = 0;
  process = 0;
}

-- the numbers that the next gate, variable and process get
abbrev pub next_numbers_at : State → Numbers
next_numbers_at state = record { gate = length state.names; variable = state.variable; process = state.process }

-- the behaviour is what is written, where this is known
abbrev pub BehaviourStandsFor : State → WrittenBehaviour → Resolution Behaviour → Type 0
BehaviourStandsFor state behaviour = BehaviourIs state.signature state.scope (next_numbers_at state) behaviour

-- behind more gates and variables that are visible no more
abbrev pub behind_in_state : List (List ℕ) → ℕ → State → State
behind_in_state names variables state = record {
  signature = state.signature;
  names = state.names ++ names;
  scope = state.scope;
  variable = state.variable + variables;
  process = state.process;
}

-- behind a behaviour
abbrev pub passed : WrittenBehaviour → State → State
passed behaviour = behind_in_state (gates_in behaviour) (variable_count behaviour)

-- with more variables, which are visible
abbrev pub seeing : List Variable → State → State
seeing variables state = record {
  signature = state.signature;
  names = state.names;
  scope = with_variables variables state.scope;
  variable = state.variable + length variables;
  process = state.process;
}

-- with the first so many variables left, or the last so many gates
abbrev pub with_first_variables : ℕ → State → State
with_first_variables size state = record {
  signature = state.signature;
  names = state.names;
  scope = record {
    gates = state.scope.gates;
    variables = take size state.scope.variables;
    processes = state.scope.processes;
  };
  variable = state.variable;
  process = state.process;
}

abbrev pub with_last_gates : ℕ → State → State
with_last_gates size state = record {
  signature = state.signature;
  names = state.names;
  scope = record {
    gates = drop (length state.scope.gates - size) state.scope.gates;
    variables = state.scope.variables;
    processes = state.scope.processes;
  };
  variable = state.variable;
  process = state.process;
}

-- the gates that are known, and other gates in their place
abbrev pub gates_at_state : State → Gates
gates_at_state state = record { names = state.names; visible = state.scope.gates }

abbrev pub with_gates_declared : List (List ℕ) → State → State
with_gates_declared names state = record {
  signature = state.signature;
  names = (declared names (gates_at_state state)).names;
  scope = record {
    gates = (declared names (gates_at_state state)).visible;
    variables = state.scope.variables;
    processes = state.scope.processes;
  };
  variable = state.variable;
  process = state.process;
}
