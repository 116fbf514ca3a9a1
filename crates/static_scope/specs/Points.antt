-- What is known between two definitions of a text.
use Rattle.std.specs.Prelude.{ℕ, suc, ◌+◌, List, ◌++◌, length}
use Rattle.lotos_base.specs.Signature.{Signature}
use Rattle.syntax_trees.specs.WrittenBehaviour.{WrittenBehaviour}
use Rattle.syntax_trees.specs.WrittenDefinition.{WrittenHeading}
use Rattle.scope_parts.specs.Scope.{Callable}
use Rattle.scope_parts.specs.Numbering.{Numbers, spelled_names, own_gates, variable_count}
use Rattle.scope_parts.specs.Definitions.{Heading, own_scope}
use Rattle.behaviour_scopes.specs.ResolverState.{State, next_numbers_at}

-- The signature, the names of the gates that were declared so far, the processes that are visible, and the numbers of the
-- next variable and the next process.
pub record Point : Type 0 where
  pub signature : Signature
  pub names : List (List ℕ)
  pub processes : List Callable
  pub variable : ℕ
  pub process : ℕ

abbrev pub scope_point_of : State → Point
scope_point_of state = record {
  signature = state.signature;
  names = state.names;
  processes = state.scope.processes;
  variable = state.variable;
  process = state.process;
}

-- the numbers that the next gate, variable and process get
abbrev pub numbers_of_point : Point → Numbers
numbers_of_point point = record { gate = length point.names; variable = point.variable; process = point.process }

-- what is known in a body
abbrev pub inside : WrittenHeading → Heading → State → State
inside heading resolved_heading state = record {
  signature = state.signature;
  names = state.names ++ spelled_names heading.gates;
  scope = own_scope state.scope.processes (next_numbers_at state) heading resolved_heading;
  variable = state.variable + length heading.parameters;
  process = state.process;
}

-- behind a definition, beside its own `where`
abbrev pub past_definition : WrittenHeading → WrittenBehaviour → Point → Point
past_definition heading body point = record {
  signature = point.signature;
  names = point.names ++ own_gates heading body;
  processes = point.processes;
  variable = (point.variable + length heading.parameters) + variable_count body;
  process = point.process;
}

-- with these processes in front of the visible ones
abbrev pub with_processes : List Callable → Point → Point
with_processes processes point = record {
  signature = point.signature;
  names = point.names;
  processes = processes ++ point.processes;
  variable = point.variable;
  process = point.process;
}

-- behind the number of one more process
abbrev pub past_number : Point → Point
past_number point = record {
  signature = point.signature;
  names = point.names;
  processes = point.processes;
  variable = point.variable;
  process = suc point.process;
}
