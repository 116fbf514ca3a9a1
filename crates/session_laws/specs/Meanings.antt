-- What the names in a behaviour mean where it is printed: each means there what it is printed for, no name stands twice in one list of
-- declarations, and what the behaviour declares has the next numbers in the order of its text.
use Rattle.std.specs.Prelude.{◌≡◌, ℕ, suc, List, [], ◌∷◌, ◌++◌, map, length, true, false, Option, None, Some, slice_get}
use Rattle.lotos_base.specs.Names.{folded}
use Rattle.lotos_base.specs.Signature.{Signature}
use Rattle.lotos_base.specs.Equation.{Variable}
use Rattle.lotos_base.specs.Term.{Term, node, no_terms, argument_list_of}
use Rattle.behaviour_semantics.specs.Behaviour.{Behaviour, stop, exit_with, action, inner_action, guard, choice, parallel, hide, enable, disable, let_be, choose_value, choose_gate, par_gate, call, relabel, Test, Offer, give, ask, ExitValue, exit_value, any_of, SynchronisationSet, no_gates, all_gates, at_gates, Process, asked_variables, sorts_of, let_variables}
use Rattle.behaviour_semantics.specs.WellFormed.{Every}
use Rattle.printed_texts.specs.TermText.{sort_text}
use Rattle.printed_texts.specs.BehaviourText.{Naming, gate_text}
use Rattle.session_histories.specs.HandedOn.{is_constant}
use Rattle.declaration_laws.specs.DeclarationOrder.{gates_bound, variables_bound}
use Rattle.session_histories.specs.BoundNames.{names_of_variables}
use Rattle.scope_parts.specs.Scope.{Binding, Scope, Callable, bound_to, bind, bind_all, is_bound}
use Rattle.scope_parts.specs.Numbering.{Numbers, past_gates, past_variables}
use Rattle.scope_parts.specs.Sorts.{Truth, sort_named, truth_in}
use Rattle.scope_parts.specs.Behaviours.{numbers_from}
use Rattle.session_laws.specs.TermMeanings.{TermMeans, TermsMean}

-- ---- Sorts, gates and declared names

-- the sort has the name that it is printed by
abbrev pub SortMeans : Signature → ℕ → Type 0
SortMeans signature sort = sort_named signature (sort_text signature sort) ≡ Some sort

-- the name that the gate is printed by means this gate
abbrev pub GateMeans : Naming → List Binding → ℕ → Type 0
GateMeans naming visible gate = bound_to visible (folded (gate_text naming gate)) ≡ Some gate

-- the names that gates are printed by
abbrev pub gate_texts : Naming → List ℕ → List (List ℕ)
gate_texts naming gates = map (gate_text naming) gates

-- No name of the list stands twice, or is one of those before it.
abbrev pub NoneStandsTwice : List Binding → List (List ℕ) → Type 0
NoneStandsTwice before [] = Unit {0}
NoneStandsTwice before (name ∷ names) = (is_bound before name ≡ false) × NoneStandsTwice (bind name 0 before) names

-- the variables have the next numbers, one after the other
abbrev pub AreInRow : ℕ → List Variable → Type 0
AreInRow next [] = Unit {0}
AreInRow next (x ∷ variables) = (x.number ≡ next) × AreInRow (suc next) variables

-- One list of declarations of variables: numbers in a row, sorts with their names, and no name twice.
pub record AreDeclaredVariables (signature : Signature) (next : ℕ) (variables : List Variable) : Type 0 where
  pub numbered : AreInRow next variables
  pub sorted : Every (λ (x : Variable). SortMeans signature x.sort) variables
  pub distinct : NoneStandsTwice [] (names_of_variables variables)

-- One list of declarations of gates: numbers in a row, and no name twice.
pub record AreDeclaredGates (naming : Naming) (next : ℕ) (gates : List ℕ) : Type 0 where
  pub numbered : numbers_from next gates ≡ gates
  pub distinct : NoneStandsTwice [] (gate_texts naming gates)

-- ---- Where a behaviour is printed

-- What is visible there, gates with the innermost first and variables with the innermost last; the variables that names are looked up
-- in, the innermost first; and the numbers that declarations get next.
pub record PrintedScope : Type 0 where
  pub gates : List Binding
  pub variables : List Variable
  pub names : List Variable
  pub numbers : Numbers

-- the scope behind declarations of variables, and behind declarations of gates
abbrev pub behind_variables : List Variable → PrintedScope → PrintedScope
behind_variables variables scope = record {
  gates = scope.gates;
  variables = scope.variables ++ variables;
  names = variables ++ scope.names;
  numbers = past_variables (length variables) scope.numbers;
}

abbrev pub behind_gates : Naming → List ℕ → PrintedScope → PrintedScope
behind_gates naming gates scope = record {
  gates = bind_all (gate_texts naming gates) scope.numbers.gate scope.gates;
  variables = scope.variables;
  names = scope.names;
  numbers = past_gates (length gates) scope.numbers;
}

-- what is visible behind a behaviour that stands to the left is the same; its declarations are counted
abbrev pub past_behaviour : Behaviour → Numbers → Numbers
past_behaviour b numbers = past_variables (length (variables_bound b)) (past_gates (length (gates_bound b)) numbers)

abbrev pub behind_left : Behaviour → PrintedScope → PrintedScope
behind_left b scope = record {
  gates = scope.gates;
  variables = scope.variables;
  names = scope.names;
  numbers = past_behaviour b scope.numbers;
}

-- the scope with the processes that are visible
abbrev pub scope_with : List Callable → PrintedScope → Scope
scope_with processes scope = record { gates = scope.gates; variables = scope.variables; processes = processes }

-- ---- Parts of behaviours

abbrev pub ValueMeans : Naming → PrintedScope → Term → ℕ → Type 0
ValueMeans naming scope t sort = TermMeans naming.signature scope.variables scope.names t sort

abbrev pub ExitValueMeans : Naming → PrintedScope → ExitValue → Type 0
ExitValueMeans naming scope (exit_value t) = (sort : ℕ) × ValueMeans naming scope t sort
ExitValueMeans naming scope (any_of sort) = SortMeans naming.signature sort

-- a value of an offer; the variables that are asked for are declarations
abbrev pub OfferMeans : Naming → PrintedScope → Offer → Type 0
OfferMeans naming scope (give t) = (sort : ℕ) × ValueMeans naming scope t sort
OfferMeans naming scope (ask x) = Unit {0}

-- the right side is the constant `true` of the sort `Bool`, which is this sort
pub record IsImpliedTruth (signature : Signature) (right : Term) (sort : ℕ) : Type 0 where
  pub truth : Truth
  pub found : truth_in signature ≡ Some truth
  pub constant : right ≡ node truth.constant no_terms
  pub sorted : truth.sort ≡ sort

-- The two sides have one sort. A right side that is left out is `true`; another one means itself.
pub record TestMeans (naming : Naming) (scope : PrintedScope) (test : Test) : Type 0 where
  pub sort : ℕ
  pub left : ValueMeans naming scope test.left sort
  pub written : is_constant naming.truth test.right ≡ false → ValueMeans naming scope test.right sort
  pub left_out : is_constant naming.truth test.right ≡ true → IsImpliedTruth naming.signature test.right sort

abbrev pub PredicateMeans : Naming → PrintedScope → Option Test → Type 0
PredicateMeans naming scope None = Unit {0}
PredicateMeans naming scope (Some test) = TestMeans naming scope test

abbrev pub MeetMeans : Naming → PrintedScope → SynchronisationSet → Type 0
MeetMeans naming scope no_gates = Unit {0}
MeetMeans naming scope all_gates = Unit {0}
MeetMeans naming scope (at_gates gates) = Every (GateMeans naming scope.gates) gates

-- a call: as many gates as its process has, and values of the sorts of its parameters
pub record CallMeans (naming : Naming) (processes : List Process) (scope : PrintedScope) (number : ℕ) (gates : List ℕ)
    (values : List Term) : Type 0 where
  pub process : Process
  pub there : slice_get processes number ≡ Some process
  pub gate_count : length gates ≡ length process.gates
  pub gates_mean : Every (GateMeans naming scope.gates) gates
  pub values_mean : TermsMean naming.signature scope.variables scope.names (argument_list_of values) (sorts_of process.parameters)

-- ---- Behaviours

-- The names in the behaviour, as it is printed by this naming in this scope of a text with these processes, mean what they are printed
-- for. No behaviour of a text is under a relabelling.
abbrev pub BehaviourMeans : Naming → List Process → PrintedScope → Behaviour → Type 0
BehaviourMeans naming processes scope stop = Unit {0}
BehaviourMeans naming processes scope (exit_with results) = Every (ExitValueMeans naming scope) results
BehaviourMeans naming processes scope (action gate offers test b) =
    GateMeans naming scope.gates gate × Every (OfferMeans naming scope) offers
    × AreDeclaredVariables naming.signature scope.numbers.variable (asked_variables offers)
    × PredicateMeans naming (behind_variables (asked_variables offers) scope) test
    × BehaviourMeans naming processes (behind_variables (asked_variables offers) scope) b
BehaviourMeans naming processes scope (inner_action b) = BehaviourMeans naming processes scope b
BehaviourMeans naming processes scope (guard test b) = TestMeans naming scope test × BehaviourMeans naming processes scope b
BehaviourMeans naming processes scope (choice b c) =
    BehaviourMeans naming processes scope b × BehaviourMeans naming processes (behind_left b scope) c
BehaviourMeans naming processes scope (parallel meet b c) =
    MeetMeans naming scope meet × BehaviourMeans naming processes scope b × BehaviourMeans naming processes (behind_left b scope) c
BehaviourMeans naming processes scope (hide gates b) =
    AreDeclaredGates naming scope.numbers.gate gates × BehaviourMeans naming processes (behind_gates naming gates scope) b
BehaviourMeans naming processes scope (enable b variables c) =
    BehaviourMeans naming processes scope b
    × AreDeclaredVariables naming.signature (behind_left b scope).numbers.variable variables
    × BehaviourMeans naming processes (behind_variables variables (behind_left b scope)) c
BehaviourMeans naming processes scope (disable b c) =
    BehaviourMeans naming processes scope b × BehaviourMeans naming processes (behind_left b scope) c
BehaviourMeans naming processes scope (let_be bindings b) =
    Every (λ (bound : Variable × Term). ValueMeans naming scope bound.1 bound.0.sort) bindings
    × AreDeclaredVariables naming.signature scope.numbers.variable (let_variables bindings)
    × BehaviourMeans naming processes (behind_variables (let_variables bindings) scope) b
BehaviourMeans naming processes scope (choose_value x b) =
    AreDeclaredVariables naming.signature scope.numbers.variable (x ∷ [])
    × BehaviourMeans naming processes (behind_variables (x ∷ []) scope) b
BehaviourMeans naming processes scope (choose_gate gate among b) =
    Every (GateMeans naming scope.gates) among × AreDeclaredGates naming scope.numbers.gate (gate ∷ [])
    × BehaviourMeans naming processes (behind_gates naming (gate ∷ []) scope) b
BehaviourMeans naming processes scope (par_gate gate among meet b) =
    Every (GateMeans naming scope.gates) among × MeetMeans naming scope meet
    × AreDeclaredGates naming scope.numbers.gate (gate ∷ [])
    × BehaviourMeans naming processes (behind_gates naming (gate ∷ []) scope) b
BehaviourMeans naming processes scope (call number gates values) = CallMeans naming processes scope number gates values
BehaviourMeans naming processes scope (relabel pairs b) = ⊥
