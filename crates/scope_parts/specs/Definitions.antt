-- Which processes and which specification a text stands for, or the first rule that it breaks. A process sees its own gates
-- and parameters alone. It sees the processes of its own `where`, and those that are visible where it is declared, itself
-- among them; inner ones hide outer ones.
use Rattle.std.specs.Prelude.{ℕ, suc, ◌+◌, List, [], ◌∷◌, ◌++◌, length, Option, if◌then◌else◌}
use Rattle.lotos_base.specs.Signature.{Signature}
use Rattle.lotos_base.specs.Equation.{Variable}
use Rattle.lotos_base.specs.WrittenTerm.{PlacedName}
use Rattle.syntax_trees.specs.WrittenBehaviour.{WrittenBehaviour}
use Rattle.syntax_trees.specs.WrittenDefinition.{WrittenHeading, WrittenInner, WrittenInners, inner_item, process, no_inner, inner_then, inners_of, WrittenSpecification}
use Rattle.behaviour_semantics.specs.Behaviour.{Behaviour, Process, Specification}
use Rattle.scope_parts.specs.ScopeFault.{double_name}
use Rattle.scope_parts.specs.Resolution.{Resolution, resolved, faulty, and_then, beside, Is, ThenResolves, Made}
use Rattle.scope_parts.specs.Scope.{Scope, Callable, Binding, bind, bind_all, is_bound, first_double}
use Rattle.scope_parts.specs.Numbering.{Numbers, spelled_names, own_gates, inners_gates, past_heading, past_own, past_inner, process_count}
use Rattle.scope_parts.specs.Sorts.{variables_at, functionality_at, sorts_if}
use Rattle.scope_parts.specs.Behaviours.{BehaviourIs, numbers_from}

-- a heading with names resolved
pub record Heading : Type 0 where
  pub gates : List ℕ
  pub parameters : List Variable
  pub exit : Option (List ℕ)

-- the formal gates, in which no name may stand twice
abbrev pub formal_gates : ℕ → List PlacedName → Resolution (List ℕ)
formal_gates next gates = beside (first_double gates) (resolved (numbers_from next gates))

abbrev pub heading_at : Signature → Numbers → WrittenHeading → Resolution Heading
heading_at signature numbers heading =
    and_then (formal_gates numbers.gate heading.gates)
    (λ gates. and_then (variables_at signature numbers.variable heading.parameters)
    (λ parameters. and_then (functionality_at signature heading.functionality)
    (λ exit. resolved (record { gates = gates; parameters = parameters; exit = exit }))))

-- what is visible in a body: its own gates and parameters, and processes
abbrev pub own_scope : List Callable → Numbers → WrittenHeading → Heading → Scope
own_scope processes numbers heading resolved_heading = record {
  gates = bind_all (spelled_names heading.gates) numbers.gate [];
  variables = resolved_heading.parameters;
  processes = processes;
}

-- a heading and its body
abbrev pub DefinitionIs : Signature → List Callable → Numbers → WrittenHeading → WrittenBehaviour → Resolution (Heading × Behaviour)
    → Type 0
DefinitionIs signature processes numbers heading body =
    ThenResolves (Is (heading_at signature numbers heading))
    (λ (first : Heading). Made (λ behaviour. (first, behaviour))
    (BehaviourIs signature (own_scope processes numbers heading first) (past_heading heading numbers) body))

-- a process as its callers see it
abbrev pub callable_of : Signature → ℕ → WrittenHeading → Callable
callable_of signature number heading = record {
  name = heading.name;
  number = number;
  gates = length heading.gates;
  sorts = sorts_if signature heading.parameters;
}

-- the processes that a `where` declares, numbered from a number on: behind a process come those of its own `where`
abbrev pub callables : Signature → ℕ → WrittenInners → List Callable
callables signature next no_inner = []
callables signature next (inner_then (inner_item item) others) = callables signature next others
callables signature next (inner_then (process heading body inner) others) =
    callable_of signature next heading ∷ callables signature (next + process_count (process heading body inner)) others

-- the name of a process, unless an earlier one of the same `where` has it
abbrev pub new_process : List Binding → WrittenHeading → Resolution (List ℕ)
new_process before heading =
    if is_bound before heading.name then faulty (double_name heading.place heading.name) else resolved heading.name

-- the names of the processes of a `where` before what comes next
abbrev pub with_name : WrittenInner → List Binding → List Binding
with_name (inner_item item) before = before
with_name (process heading body inner) before = bind heading.name 0 before

abbrev pub process_with : WrittenHeading → Heading × Behaviour → Process
process_with heading definition = record {
  name = heading.name;
  gates = definition.0.gates;
  parameters = definition.0.parameters;
  exit = definition.0.exit;
  body = definition.1;
}

-- behind the number of the process itself
abbrev pub past_name : Numbers → Numbers
past_name numbers = record { gate = numbers.gate; variable = numbers.variable; process = suc numbers.process }

abbrev mutual
  -- a process that a `where` declares, with those of its own `where` behind it. The list has the processes that are visible
  -- where it is declared, and the names of the processes before it in the same `where`
  pub InnerIs : Signature → List Callable → List Binding → Numbers → WrittenInner → Resolution (List Process) → Type 0
  InnerIs signature visible before numbers (inner_item item) = Is (resolved [])
  InnerIs signature visible before numbers (process heading body inner) =
      ThenResolves (Is (new_process before heading))
      (λ name. ThenResolves (DefinitionIs signature (callables signature (suc numbers.process) inner ++ visible) (past_name numbers) heading
      body)
      (λ definition. Made (λ within. process_with heading definition ∷ within)
      (InnersAre signature (callables signature (suc numbers.process) inner ++ visible) [] (past_own heading body
      (past_name numbers)) inner)))

  -- the processes of a `where` in the order of the text
  pub InnersAre : Signature → List Callable → List Binding → Numbers → WrittenInners → Resolution (List Process) → Type 0
  InnersAre signature visible before numbers no_inner = Is (resolved [])
  InnersAre signature visible before numbers (inner_then inner others) =
      ThenResolves (InnerIs signature visible before numbers inner)
      (λ first. Made (λ rest. first ++ rest)
      (InnersAre signature visible (with_name inner before) (past_inner inner numbers) others))

-- the first numbers
abbrev pub first_numbers : Numbers
first_numbers = record { gate = 0; variable = 0; process = 0 }

-- all gates that a text declares, by their numbers
abbrev pub declared_gates : WrittenSpecification → List (List ℕ)
declared_gates text = own_gates text.heading text.body ++ inners_gates (inners_of text.inner)

abbrev pub specification_with : WrittenSpecification → Heading × Behaviour → List Process → Specification
specification_with text definition processes = record {
  name = text.heading.name;
  gate_names = declared_gates text;
  gates = definition.0.gates;
  parameters = definition.0.parameters;
  exit = definition.0.exit;
  body = definition.1;
  processes = processes;
}

-- The specification is the one that the text stands for: its heading, its body, and the processes at any depth in the order
-- of the text.
abbrev pub SpecificationIs : Signature → WrittenSpecification → Resolution Specification → Type 0
SpecificationIs signature text =
    ThenResolves (DefinitionIs signature (callables signature 0 (inners_of text.inner)) first_numbers text.heading text.body)
    (λ definition. Made (λ processes. specification_with text definition processes)
    (InnersAre signature (callables signature 0 (inners_of text.inner)) [] (past_own text.heading text.body first_numbers)
    (inners_of text.inner)))
