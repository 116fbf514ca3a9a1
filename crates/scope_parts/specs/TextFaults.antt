-- What is wrong in the definitions of a text: each fault by itself, whatever else is wrong before it or beside it.
use Rattle.std.specs.Prelude.{◌≡◌, ◌⊎◌, suc, true, List, [], ◌++◌, Option, None, Some}
use Rattle.lotos_base.specs.Signature.{Signature}
use Rattle.lotos_base.specs.Equation.{Variable}
use Rattle.lotos_base.specs.WrittenTerm.{PlacedName}
use Rattle.syntax_trees.specs.WrittenBehaviour.{WrittenBehaviour}
use Rattle.syntax_trees.specs.WrittenDefinition.{WrittenHeading, WrittenInner, WrittenInners, inner_item, process, no_inner, inner_then, inners_of, WrittenSpecification}
use Rattle.scope_parts.specs.ScopeFault.{ScopeFault, double_name}
use Rattle.scope_parts.specs.Resolution.{Is}
use Rattle.scope_parts.specs.Scope.{Scope, Callable, Binding, bind_all, is_bound}
use Rattle.scope_parts.specs.Numbering.{Numbers, spelled_names, past_heading, past_own, past_inner}
use Rattle.scope_parts.specs.Sorts.{variables_at}
use Rattle.scope_parts.specs.Definitions.{callables, with_name, past_name, first_numbers}
use Rattle.scope_parts.specs.PartFaults.{Seeing, Doubled, VariablesHave, SortsHave}
use Rattle.scope_parts.specs.BehaviourFaults.{HasFault}

abbrev pub FunctionalityHas : Signature → Option (List PlacedName) → ScopeFault → Type 0
FunctionalityHas signature None fault = ⊥
FunctionalityHas signature (Some sorts) fault = SortsHave signature sorts fault

-- a heading: its formal gates, its parameters, its functionality
abbrev pub HeadingHas : Signature → Numbers → WrittenHeading → ScopeFault → Type 0
HeadingHas signature numbers heading fault =
    Doubled heading.gates fault
    ⊎ (VariablesHave signature numbers.variable heading.parameters fault ⊎ FunctionalityHas signature heading.functionality fault)

-- what is visible in a body: its own gates and parameters, and processes
abbrev pub body_scope : List Callable → Numbers → WrittenHeading → List Variable → Scope
body_scope processes numbers heading parameters = record {
  gates = bind_all (spelled_names heading.gates) numbers.gate [];
  variables = parameters;
  processes = processes;
}

-- a heading and its body
abbrev pub DefinitionHas : Signature → List Callable → Numbers → WrittenHeading → WrittenBehaviour → ScopeFault → Type 0
DefinitionHas signature processes numbers heading body fault =
    HeadingHas signature numbers heading fault
    ⊎ Seeing (Is (variables_at signature numbers.variable heading.parameters))
    (λ (parameters : List Variable). HasFault signature (body_scope processes numbers heading parameters)
    (past_heading heading numbers) body) fault

-- the name of a process that an earlier one of the same `where` has
abbrev pub NameHas : List Binding → WrittenHeading → ScopeFault → Type 0
NameHas before heading fault = (is_bound before heading.name ≡ true) × (fault ≡ double_name heading.place heading.name)

abbrev mutual
  -- a process that a `where` declares, and those of its own `where`
  pub InnerHas : Signature → List Callable → List Binding → Numbers → WrittenInner → ScopeFault → Type 0
  InnerHas signature visible before numbers (inner_item item) fault = ⊥
  InnerHas signature visible before numbers (process heading body inner) fault =
      NameHas before heading fault
      ⊎ (DefinitionHas signature (callables signature (suc numbers.process) inner ++ visible) (past_name numbers) heading body fault
      ⊎ InnersHave signature (callables signature (suc numbers.process) inner ++ visible) [] (past_own heading body (past_name numbers))
      inner fault)

  pub InnersHave : Signature → List Callable → List Binding → Numbers → WrittenInners → ScopeFault → Type 0
  InnersHave signature visible before numbers no_inner fault = ⊥
  InnersHave signature visible before numbers (inner_then inner others) fault =
      InnerHas signature visible before numbers inner fault
      ⊎ InnersHave signature visible (with_name inner before) (past_inner inner numbers) others fault

-- The fault is one of the text, over the signature of its data.
abbrev pub TextHasFault : Signature → WrittenSpecification → ScopeFault → Type 0
TextHasFault signature text fault =
    DefinitionHas signature (callables signature 0 (inners_of text.inner)) first_numbers text.heading text.body fault
    ⊎ InnersHave signature (callables signature 0 (inners_of text.inner)) [] (past_own text.heading text.body first_numbers)
    (inners_of text.inner) fault
