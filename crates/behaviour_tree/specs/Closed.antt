-- What a node has to be so that it is a state: each free variable has one value of its sort.
use Rattle.std.specs.Prelude.{◌≡◌, ℕ, List, [], ◌∷◌, ◌⊎◌, false, Option, None, Some, slice_get}
use Rattle.lotos_base.specs.Term.{Term}
use Rattle.lotos_base.specs.Sorting.{IsGround, Occurs}
use Rattle.lotos_base.specs.Equation.{Variable}
use Rattle.lotos_base.specs.Substitution.{is_listed}
use Rattle.behaviour_semantics.specs.Behaviour.{Behaviour, stop, exit_with, action, inner_action, guard, choice, parallel, hide, enable, disable, let_be, choose_value, choose_gate, par_gate, call, relabel, Test, Offer, give, ask, ExitValue, exit_value, any_of, asked_variables, numbers_of, let_variables, let_terms}
use Rattle.behaviour_semantics.specs.Label.{formals_of}
use Rattle.behaviour_semantics.specs.WellFormed.{Every, AreDistinct}
use Rattle.sort_terms.specs.ProfiledTerm.{head_sort}
use Rattle.sort_terms.specs.SortedView.{profiled_in, term_in}
use Rattle.sort_terms.specs.declared.sorted.Sorted.{Sorted}
use Rattle.behaviour_tree.specs.BehaviourView.{behaviour_of, variables_of}
use Rattle.behaviour_tree.specs.declared.states.Node.{Node, Stop, Part, Call, Parallel', Hide', Enable', Disable', Relabel'}

-- The variable occurs in a test, in one of the terms, in an offer, in a value of `exit`.
abbrev pub OccursInTest : ℕ → ℕ → Test → Type 0
OccursInTest n s test = Occurs n s test.left ⊎ Occurs n s test.right

abbrev pub OccursInTestOption : ℕ → ℕ → Option Test → Type 0
OccursInTestOption n s None = ⊥
OccursInTestOption n s (Some test) = OccursInTest n s test

abbrev pub OccursInOne : ℕ → ℕ → List Term → Type 0
OccursInOne n s [] = ⊥
OccursInOne n s (t ∷ terms) = Occurs n s t ⊎ OccursInOne n s terms

abbrev pub OccursInOffers : ℕ → ℕ → List Offer → Type 0
OccursInOffers n s [] = ⊥
OccursInOffers n s (give t ∷ offers) = Occurs n s t ⊎ OccursInOffers n s offers
OccursInOffers n s (ask x ∷ offers) = OccursInOffers n s offers

abbrev pub OccursInResults : ℕ → ℕ → List ExitValue → Type 0
OccursInResults n s [] = ⊥
OccursInResults n s (exit_value t ∷ values) = Occurs n s t ⊎ OccursInResults n s values
OccursInResults n s (any_of r ∷ values) = OccursInResults n s values

-- The binder of these variables leaves the variable free.
abbrev pub IsLeftFree : List Variable → ℕ → Type 0
IsLeftFree variables n = is_listed (numbers_of variables) n ≡ false

-- The variable with this number and sort is free in the behaviour.
abbrev pub IsFree : ℕ → ℕ → Behaviour → Type 0
IsFree n s stop = ⊥
IsFree n s (exit_with results) = OccursInResults n s results
IsFree n s (action g offers test b) =
    OccursInOffers n s offers ⊎ (IsLeftFree (asked_variables offers) n × (OccursInTestOption n s test ⊎ IsFree n s b))
IsFree n s (inner_action b) = IsFree n s b
IsFree n s (guard test b) = OccursInTest n s test ⊎ IsFree n s b
IsFree n s (choice b c) = IsFree n s b ⊎ IsFree n s c
IsFree n s (parallel meet b c) = IsFree n s b ⊎ IsFree n s c
IsFree n s (hide gates b) = IsFree n s b
IsFree n s (enable b variables c) = IsFree n s b ⊎ (IsLeftFree variables n × IsFree n s c)
IsFree n s (disable b c) = IsFree n s b ⊎ IsFree n s c
IsFree n s (let_be bindings b) = OccursInOne n s (let_terms bindings) ⊎ (IsLeftFree (let_variables bindings) n × IsFree n s b)
IsFree n s (choose_value x b) = IsLeftFree (x ∷ []) n × IsFree n s b
IsFree n s (choose_gate g gates b) = IsFree n s b
IsFree n s (par_gate g gates meet b) = IsFree n s b
IsFree n s (call number gates arguments) = OccursInOne n s arguments
IsFree n s (relabel pairs b) = IsFree n s b

-- The environment has one pair for the variable, with a value of its sort.
pub record IsGivenOnce (environment : List (ℕ × Sorted)) (n s : ℕ) : Type 0 where
  pub position : ℕ
  pub value : Sorted
  pub given : slice_get environment position ≡ Some (n, value)
  pub sorted : head_sort (profiled_in value) ≡ s
  pub once : (k : ℕ) (other : Sorted) → slice_get environment k ≡ Some (n, other) → k ≡ position

-- The values of the environment are ground.
abbrev pub AreGroundValues : List (ℕ × Sorted) → Type 0
AreGroundValues environment = Every (λ (pair : ℕ × Sorted). IsGround (term_in pair.1)) environment

-- The environment gives each free variable of the behaviour one value, and its values are ground.
pub record IsClosedBy (environment : List (ℕ × Sorted)) (b : Behaviour) : Type 0 where
  pub given : (n s : ℕ) → IsFree n s b → IsGivenOnce environment n s
  pub grounded : AreGroundValues environment

-- The same for the variables other than those that the binder binds.
pub record IsClosedUnder (variables : List Variable) (environment : List (ℕ × Sorted)) (b : Behaviour) : Type 0 where
  pub given : (n s : ℕ) → IsLeftFree variables n → IsFree n s b → IsGivenOnce environment n s
  pub grounded : AreGroundValues environment

-- The node is a state: each free variable has one value of its sort, the values are ground, and the formal gates of each
-- relabelling are distinct.
abbrev pub IsClosedNode : Node → Type 0
IsClosedNode Stop = Unit {0}
IsClosedNode (Part behaviour environment) = IsClosedBy environment.items (behaviour_of behaviour.value)
IsClosedNode (Call process gates values) = Every (λ (value : Sorted). IsGround (term_in value)) values.items
IsClosedNode (Parallel' meet _ left _ right) = IsClosedNode left × IsClosedNode right
IsClosedNode (Hide' gates _ part) = IsClosedNode part
IsClosedNode (Enable' _ left variables right environment) =
    IsClosedNode left × IsClosedUnder (variables_of variables.items) environment.items (behaviour_of right.value)
IsClosedNode (Disable' _ left _ right) = IsClosedNode left × IsClosedNode right
IsClosedNode (Relabel' pairs _ part) = AreDistinct (formals_of pairs.items) × IsClosedNode part
