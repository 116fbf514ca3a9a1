-- What a specification declares, in the order of the text: gates and variables, each numbered from 0.
use Rattle.std.specs.Prelude.{◌≡◌, ℕ, suc, List, [], ◌∷◌, ◌++◌, slice_get, Some}
use Rattle.lotos_base.specs.Signature.{Signature}
use Rattle.lotos_base.specs.Equation.{Variable}
use Rattle.syntax_trees.specs.WrittenVariable.{WrittenVariable}
use Rattle.syntax_trees.specs.WrittenBehaviour as written
use Rattle.syntax_trees.specs.WrittenBehaviour.{WrittenBehaviour}
use Rattle.syntax_trees.specs.WrittenDefinition.{WrittenInner, WrittenInners, inner_item, process, no_inner, inner_then, inners_of, WrittenSpecification}
use Rattle.behaviour_semantics.specs.Behaviour.{Behaviour, stop, exit_with, action, inner_action, guard, choice, parallel, hide, enable, disable, let_be, choose_value, choose_gate, par_gate, call, relabel, Process, Specification, asked_variables, let_variables}
use Rattle.scope_parts.specs.Numbering.{asked_for, accepted}
use Rattle.scope_parts.specs.Resolution.{resolved}
use Rattle.scope_parts.specs.Terms.{let_names}
use Rattle.scope_parts.specs.Definitions.{SpecificationIs, declared_gates}

-- ---- What the text declares. Its gates are `declared_gates`.

-- the variables that a behaviour declares
abbrev pub declared_variables_in : WrittenBehaviour → List WrittenVariable
declared_variables_in (written.stop place) = []
declared_variables_in (written.exit place values) = []
declared_variables_in (written.call place name gates values) = []
declared_variables_in (written.action place gate offers test next) = asked_for offers ++ declared_variables_in next
declared_variables_in (written.inner_action place next) = declared_variables_in next
declared_variables_in (written.guard place test next) = declared_variables_in next
declared_variables_in (written.hide place gates inside) = declared_variables_in inside
declared_variables_in (written.let_be place values inside) = let_names values ++ declared_variables_in inside
declared_variables_in (written.choose_value place variables inside) = variables ++ declared_variables_in inside
declared_variables_in (written.choose_gate place gates inside) = declared_variables_in inside
declared_variables_in (written.par_gate place gates sign inside) = declared_variables_in inside
declared_variables_in (written.binary place sign left right) = declared_variables_in left ++ (accepted sign ++ declared_variables_in right)

abbrev mutual
  -- the variables that a `where` declares, at any depth
  pub inner_variables : WrittenInner → List WrittenVariable
  inner_variables (inner_item item) = []
  inner_variables (process heading body inner) = heading.parameters ++ declared_variables_in body ++ inners_variables inner

  pub inners_variables : WrittenInners → List WrittenVariable
  inners_variables no_inner = []
  inners_variables (inner_then inner others) = inner_variables inner ++ inners_variables others

abbrev pub declared_variables : WrittenSpecification → List WrittenVariable
declared_variables text = text.heading.parameters ++ declared_variables_in text.body ++ inners_variables (inners_of text.inner)

-- ---- What the specification binds, read from left to right.

abbrev pub gates_bound : Behaviour → List ℕ
gates_bound stop = []
gates_bound (exit_with results) = []
gates_bound (action g offers test b) = gates_bound b
gates_bound (inner_action b) = gates_bound b
gates_bound (guard test b) = gates_bound b
gates_bound (choice b c) = gates_bound b ++ gates_bound c
gates_bound (parallel meet b c) = gates_bound b ++ gates_bound c
gates_bound (hide gates b) = gates ++ gates_bound b
gates_bound (enable b variables c) = gates_bound b ++ gates_bound c
gates_bound (disable b c) = gates_bound b ++ gates_bound c
gates_bound (let_be bindings b) = gates_bound b
gates_bound (choose_value x b) = gates_bound b
gates_bound (choose_gate g gates b) = g ∷ gates_bound b
gates_bound (par_gate g gates meet b) = g ∷ gates_bound b
gates_bound (call number gates arguments) = []
gates_bound (relabel pairs b) = gates_bound b

abbrev pub variables_bound : Behaviour → List Variable
variables_bound stop = []
variables_bound (exit_with results) = []
variables_bound (action g offers test b) = asked_variables offers ++ variables_bound b
variables_bound (inner_action b) = variables_bound b
variables_bound (guard test b) = variables_bound b
variables_bound (choice b c) = variables_bound b ++ variables_bound c
variables_bound (parallel meet b c) = variables_bound b ++ variables_bound c
variables_bound (hide gates b) = variables_bound b
variables_bound (enable b variables c) = variables_bound b ++ (variables ++ variables_bound c)
variables_bound (disable b c) = variables_bound b ++ variables_bound c
variables_bound (let_be bindings b) = let_variables bindings ++ variables_bound b
variables_bound (choose_value x b) = x ∷ variables_bound b
variables_bound (choose_gate g gates b) = variables_bound b
variables_bound (par_gate g gates meet b) = variables_bound b
variables_bound (call number gates arguments) = []
variables_bound (relabel pairs b) = variables_bound b

-- those of processes: formal gates and parameters before the body
abbrev pub process_gates : List Process → List ℕ
process_gates [] = []
process_gates (p ∷ ps) = p.gates ++ gates_bound p.body ++ process_gates ps

abbrev pub process_variables : List Process → List Variable
process_variables [] = []
process_variables (p ∷ ps) = p.parameters ++ variables_bound p.body ++ process_variables ps

abbrev pub all_gates_of : Specification → List ℕ
all_gates_of specification = specification.gates ++ gates_bound specification.body ++ process_gates specification.processes

abbrev pub all_variables_of : Specification → List Variable
all_variables_of specification =
    specification.parameters ++ variables_bound specification.body ++ process_variables specification.processes

-- ---- Numbers

-- The members of two lists belong together one by one, the first pair with this number, each next one with the next number; and the
-- lists are as long.
abbrev pub Follow : (A B : Type 0) → (ℕ → A → B → Type 0) → ℕ → List A → List B → Type 0
Follow A B Belong next [] [] = Unit {0}
Follow A B Belong next [] (y ∷ ys) = ⊥
Follow A B Belong next (x ∷ xs) [] = ⊥
Follow A B Belong next (x ∷ xs) (y ∷ ys) = Belong next x y × Follow A B Belong (suc next) xs ys

-- a gate is known by its number; a variable has its number beside its name
abbrev pub HasGateNumber : ℕ → List ℕ → ℕ → Type 0
HasGateNumber n name gate = gate ≡ n

abbrev pub HasVariableNumber : ℕ → WrittenVariable → Variable → Type 0
HasVariableNumber n declared variable = (variable.number ≡ n) × (variable.name ≡ declared.name)

-- The gates and the variables of the specification are those of the text in its order, numbered from 0; so no two have one number.
pub record IsInOrderOfText (text : WrittenSpecification) (specification : Specification) : Type 0 where
  pub gate_names : specification.gate_names ≡ declared_gates text
  pub gates : Follow (List ℕ) ℕ HasGateNumber 0 (declared_gates text) (all_gates_of specification)
  pub variables : Follow WrittenVariable Variable HasVariableNumber 0 (declared_variables text) (all_variables_of specification)
  pub gates_differ : (i j n : ℕ) → slice_get (all_gates_of specification) i ≡ Some n → slice_get (all_gates_of specification) j ≡ Some n
      → i ≡ j
  pub variables_differ : (i j : ℕ) (one other : Variable) → slice_get (all_variables_of specification) i ≡ Some one
      → slice_get (all_variables_of specification) j ≡ Some other → one.number ≡ other.number → i ≡ j

-- what a text stands for is so
abbrev pub DeclarationsHaveTheNextNumber : Type 0
DeclarationsHaveTheNextNumber = (signature : Signature) (text : WrittenSpecification) (specification : Specification)
    → SpecificationIs signature text (resolved specification) → IsInOrderOfText text specification
