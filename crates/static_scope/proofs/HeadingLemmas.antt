-- A heading from its parts, where what was visible is forgotten.
use Rattle.std.proofs.Common.{◌≡◌, ℕ, List, length, refl, subst}
use Rattle.std.specs.Prelude.{Option}
use Rattle.lotos_base.specs.Equation.{Variable}
use Rattle.syntax_trees.specs.WrittenDefinition.{WrittenHeading}
use Rattle.scope_parts.specs.ScopeFault.{ScopeFault}
use Rattle.scope_parts.specs.Resolution.{Resolution, resolved, faulty, and_then}
use Rattle.scope_parts.specs.Sorts.{variables_at, functionality_at}
use Rattle.scope_parts.specs.Definitions.{Heading, formal_gates, heading_at}
use Rattle.scope_parts.proofs.AnswerLemmas.{value_then, fault_then}
use Rattle.behaviour_scopes.specs.ResolverState.{State, next_numbers_at}
use Rattle.static_scope.proofs.PointLemmas.{without_names}

-- what comes of the parts
abbrev functionality_then : State → WrittenHeading → List ℕ → List Variable → Resolution Heading
functionality_then state text gates parameters =
    and_then (functionality_at state.signature text.functionality)
    (λ exit. resolved (record { gates = gates; parameters = parameters; exit = exit }))

abbrev parameters_then : State → WrittenHeading → List ℕ → Resolution Heading
parameters_then state text gates =
    and_then (variables_at state.signature state.variable text.parameters) (functionality_then state text gates)

gates_first : (old new : State) (text : WrittenHeading) (gates : List ℕ) (o : Resolution Heading) → new ≡ without_names old
    → resolved gates ≡ formal_gates (length new.names) text.gates → o ≡ parameters_then old text gates
    → o ≡ heading_at old.signature (next_numbers_at old) text
gates_first old new text gates o same first later =
    value_then (formal_gates (length old.names) text.gates) gates (parameters_then old text) o
    (subst (λ (s : State). resolved gates ≡ formal_gates (length s.names) text.gates) same first) later

parameters_next : (old new : State) (text : WrittenHeading) (gates : List ℕ) (parameters : List Variable) (o : Resolution Heading)
    → new ≡ without_names old → resolved parameters ≡ variables_at new.signature new.variable text.parameters
    → o ≡ functionality_then old text gates parameters → o ≡ parameters_then old text gates
parameters_next old new text gates parameters o same first later =
    value_then (variables_at old.signature old.variable text.parameters) parameters (functionality_then old text gates) o
    (subst (λ (s : State). resolved parameters ≡ variables_at s.signature s.variable text.parameters) same first) later

pub heading_value : (old new : State) (text : WrittenHeading) (gates : List ℕ) (parameters : List Variable) (exit : Option (List ℕ))
    → new ≡ without_names old → resolved gates ≡ formal_gates (length new.names) text.gates
    → resolved parameters ≡ variables_at new.signature new.variable text.parameters
    → resolved exit ≡ functionality_at new.signature text.functionality
    → resolved (record { gates = gates; parameters = parameters; exit = exit }) ≡ heading_at old.signature (next_numbers_at old) text
heading_value old new text gates parameters exit same first second third =
    gates_first old new text gates (resolved (record { gates = gates; parameters = parameters; exit = exit })) same first
    (parameters_next old new text gates parameters (resolved (record { gates = gates; parameters = parameters; exit = exit })) same second
    (value_then (functionality_at old.signature text.functionality) exit
    (λ x. resolved (record { gates = gates; parameters = parameters; exit = x }))
    (resolved (record { gates = gates; parameters = parameters; exit = exit }))
    (subst (λ (s : State). resolved exit ≡ functionality_at s.signature text.functionality) same third) refl))

pub gates_fault : (old new : State) (text : WrittenHeading) (f : ScopeFault) → new ≡ without_names old
    → faulty f ≡ formal_gates (length new.names) text.gates → faulty f ≡ heading_at old.signature (next_numbers_at old) text
gates_fault old new text f same first =
    fault_then (formal_gates (length old.names) text.gates) (parameters_then old text) f
    (subst (λ (s : State). faulty f ≡ formal_gates (length s.names) text.gates) same first)

pub parameters_fault : (old new : State) (text : WrittenHeading) (gates : List ℕ) (f : ScopeFault) → new ≡ without_names old
    → resolved gates ≡ formal_gates (length new.names) text.gates
    → faulty f ≡ variables_at new.signature new.variable text.parameters → faulty f ≡ heading_at old.signature (next_numbers_at old) text
parameters_fault old new text gates f same first second =
    gates_first old new text gates (faulty f) same first
    (fault_then (variables_at old.signature old.variable text.parameters) (functionality_then old text gates) f
    (subst (λ (s : State). faulty f ≡ variables_at s.signature s.variable text.parameters) same second))

pub functionality_fault : (old new : State) (text : WrittenHeading) (gates : List ℕ) (parameters : List Variable) (f : ScopeFault)
    → new ≡ without_names old → resolved gates ≡ formal_gates (length new.names) text.gates
    → resolved parameters ≡ variables_at new.signature new.variable text.parameters
    → faulty f ≡ functionality_at new.signature text.functionality → faulty f ≡ heading_at old.signature (next_numbers_at old) text
functionality_fault old new text gates parameters f same first second third =
    gates_first old new text gates (faulty f) same first
    (parameters_next old new text gates parameters (faulty f) same second
    (fault_then (functionality_at old.signature text.functionality)
    (λ x. resolved (record { gates = gates; parameters = parameters; exit = x })) f
    (subst (λ (s : State). faulty f ≡ functionality_at s.signature text.functionality) same third)))
