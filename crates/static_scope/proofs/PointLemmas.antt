-- What is known in a body and behind a definition.
use Rattle.std.proofs.Common.{◌≡◌, ℕ, ◌+◌, ◌-◌, List, [], ◌++◌, length, drop, ap, ◌∙◌, subst, arith}
use Rattle.std.proofs.Math.Seq.{drop-length}
use Rattle.std.proofs.lemmas.List.{append_assoc, length-append}
use Rattle.lotos_base.specs.Equation.{Variable}
use Rattle.syntax_trees.specs.WrittenBehaviour.{WrittenBehaviour}
use Rattle.syntax_trees.specs.WrittenDefinition.{WrittenHeading}
use Rattle.scope_parts.specs.GatesDeclared.{Gates}
use Rattle.scope_parts.specs.Numbering.{Numbers, spelled_names, gates_in, variable_count, past_own, past_heading}
use Rattle.scope_parts.specs.Scope.{Binding, bind_all}
use Rattle.behaviour_semantics.specs.Behaviour.{Behaviour}
use Rattle.scope_parts.specs.Behaviours.{BehaviourIs}
use Rattle.scope_parts.specs.Resolution.{Resolution}
use Rattle.scope_parts.specs.Definitions.{Heading, own_scope}
use Rattle.scope_parts.proofs.FormedDefinitions.{length_spelled}
use Rattle.behaviour_scopes.specs.ResolverState.{State, BehaviourStandsFor, next_numbers_at, passed, with_first_variables, with_last_gates}
use Rattle.static_scope.specs.Points.{Point, scope_point_of, numbers_of_point, inside, past_definition}

all_dropped : (gates : List Binding) → drop (length gates - 0) gates ≡ []
all_dropped gates =
    let all : length gates - 0 ≡ length gates = omega arith in
    ap (λ (n : ℕ). drop n gates) all ∙ drop-length gates

-- no gates and no variables are visible
abbrev pub without_names : State → State
without_names state = record {
  signature = state.signature;
  names = state.names;
  scope = record { gates = []; variables = []; processes = state.scope.processes };
  variable = state.variable;
  process = state.process;
}

pub forgotten : (old between new : State) → between ≡ with_last_gates 0 old → new ≡ with_first_variables 0 between → new ≡ without_names old
forgotten old between new first later =
    later ∙ ap (with_first_variables 0) first
    ∙ ap
    (λ (gs : List Binding). record {
      signature = old.signature;
      names = old.names;
      scope = record { gates = gs; variables = []; processes = old.scope.processes };
      variable = old.variable;
      process = old.process;
    })
    (all_dropped old.scope.gates)

-- what is known in a body, once its gates are declared and its parameters are seen
abbrev pub with_own : Gates → List Variable → State → State
with_own gates variables state = record {
  signature = state.signature;
  names = gates.names;
  scope = record { gates = gates.visible; variables = state.scope.variables ++ variables; processes = state.scope.processes };
  variable = state.variable + length variables;
  process = state.process;
}

pub inside_is : (old between : State) (text : WrittenHeading) (heading : Heading) (gates : Gates) → between ≡ without_names old
    → gates.visible ≡ bind_all (spelled_names text.gates) (length old.names) [] → gates.names ≡ old.names ++ spelled_names text.gates
    → length heading.parameters ≡ length text.parameters
    → with_own gates heading.parameters between ≡ inside text heading old
inside_is old between text heading gates first visible names counted =
    ap (with_own gates heading.parameters) first
    ∙ ap
    (λ (gs : List Binding). record {
      signature = old.signature;
      names = gates.names;
      scope = record { gates = gs; variables = heading.parameters; processes = old.scope.processes };
      variable = old.variable + length heading.parameters;
      process = old.process;
    })
    visible
    ∙ ap
    (λ (ns : List (List ℕ)). record {
      signature = old.signature;
      names = ns;
      scope = record {
        gates = bind_all (spelled_names text.gates) (length old.names) [];
        variables = heading.parameters;
        processes = old.scope.processes;
      };
      variable = old.variable + length heading.parameters;
      process = old.process;
    })
    names
    ∙ ap
    (λ (n : ℕ). record {
      signature = old.signature;
      names = old.names ++ spelled_names text.gates;
      scope = record {
        gates = bind_all (spelled_names text.gates) (length old.names) [];
        variables = heading.parameters;
        processes = old.scope.processes;
      };
      variable = old.variable + n;
      process = old.process;
    })
    counted

-- the numbers in a body, and behind a definition
pub numbers_inside : (text : WrittenHeading) (heading : Heading) (state : State)
    → next_numbers_at (inside text heading state) ≡ past_heading text (next_numbers_at state)
numbers_inside text heading state =
    let many = length_spelled text.gates in
    let both : length (state.names ++ spelled_names text.gates) ≡ length state.names + length text.gates =
    length-append state.names (spelled_names text.gates) ∙ ap (λ (n : ℕ). length state.names + n) many in
    ap (λ (n : ℕ). record { gate = n; variable = state.variable + length text.parameters; process = state.process }) both

pub numbers_past : (text : WrittenHeading) (body : WrittenBehaviour) (point : Point)
    → numbers_of_point (past_definition text body point) ≡ past_own text body (numbers_of_point point)
numbers_past text body point =
    let many = length_spelled text.gates in
    let own : length (spelled_names text.gates ++ gates_in body) ≡ length (spelled_names text.gates) + length (gates_in body) =
    length-append (spelled_names text.gates) (gates_in body) in
    let all : length (point.names ++ (spelled_names text.gates ++ gates_in body))
    ≡ length point.names + length (spelled_names text.gates ++ gates_in body) =
    length-append point.names (spelled_names text.gates ++ gates_in body) in
    let gate : length (point.names ++ (spelled_names text.gates ++ gates_in body))
    ≡ (length point.names + length text.gates) + length (gates_in body) =
    omega (arith, many, own, all) in
    ap
    (λ (n : ℕ). record {
      gate = n;
      variable = (point.variable + length text.parameters) + variable_count body;
      process = point.process;
    })
    gate

pub definition_passed : (old mid new : State) (text : WrittenHeading) (heading : Heading) (body : WrittenBehaviour)
    → mid ≡ inside text heading old → new ≡ passed body mid → scope_point_of new ≡ past_definition text body (scope_point_of old)
definition_passed old mid new text heading body first later =
    ap scope_point_of (later ∙ ap (passed body) first)
    ∙ ap
    (λ (ns : List (List ℕ)). record {
      signature = old.signature;
      names = ns;
      processes = old.scope.processes;
      variable = (old.variable + length text.parameters) + variable_count body;
      process = old.process;
    })
    (append_assoc old.names (spelled_names text.gates) (gates_in body))

pub definition_stands : (old mid : State) (text : WrittenHeading) (heading : Heading) (body : WrittenBehaviour) (o : Resolution Behaviour)
    → mid ≡ inside text heading old → BehaviourStandsFor mid body o
    → BehaviourIs old.signature (own_scope old.scope.processes (next_numbers_at old) text heading)
    (past_heading text (next_numbers_at old)) body o
definition_stands old mid text heading body o same stands =
    subst
    (λ (n : Numbers). BehaviourIs old.signature (own_scope old.scope.processes (next_numbers_at old) text heading) n body o)
    (numbers_inside text heading old) (subst (λ (s : State). BehaviourStandsFor s body o) same stands)
