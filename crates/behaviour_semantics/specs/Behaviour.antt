-- Behaviours, processes and specifications of ISO 8807. Gates, variables, sorts and processes are known by
-- numbers: gates and variables by their declaration, sorts by their place in the signature, processes by their
-- place in the specification.
use Rattle.std.specs.Prelude.{ℕ, List, [], ◌∷◌, Option, map}
use Rattle.lotos_base.specs.Term.{Term}
use Rattle.lotos_base.specs.Equation.{Variable}

-- A premiss: the equation that has to hold. A premiss of one term has the right side `true`.
pub record Test : Type 0 where
  pub left : Term
  pub right : Term

-- What an action offers: `!e` gives a value, `?x:S` asks for one.
pub data Offer : Type 0 where
  give : Term → Offer
  ask : Variable → Offer

-- A value of `exit`: a term, or `any S` for any value of the sort.
pub data ExitValue : Type 0 where
  exit_value : Term → ExitValue
  any_of : ℕ → ExitValue

-- The gates at which the two sides of a parallel synchronise: `|||`, `||` and `|[..]|`.
pub data SynchronisationSet : Type 0 where
  no_gates : SynchronisationSet
  all_gates : SynchronisationSet
  at_gates : List ℕ → SynchronisationSet

-- A relabelling: pairs of a formal and an actual gate, with distinct formal gates.
abbrev pub Relabelling : Type 0
Relabelling = List (ℕ × ℕ)

-- A behaviour. `stop`; `exit(..)`; an action `g d1 .. dn [test]; B`; `i; B`; `[test] -> B`; `B [] C`; `B |[..]| C`;
-- `hide .. in B`; `B >> accept .. in C`; `B [> C`; `let .. in B`; `choice x [] B`; `choice g in [..] [] B`;
-- `par g in [..] op B`; a call with its process, gates and values; and a behaviour under a relabelling.
pub data Behaviour : Type 0 where
  stop : Behaviour
  exit_with : List ExitValue → Behaviour
  action : ℕ → List Offer → Option Test → Behaviour → Behaviour
  inner_action : Behaviour → Behaviour
  guard : Test → Behaviour → Behaviour
  choice : Behaviour → Behaviour → Behaviour
  parallel : SynchronisationSet → Behaviour → Behaviour → Behaviour
  hide : List ℕ → Behaviour → Behaviour
  enable : Behaviour → List Variable → Behaviour → Behaviour
  disable : Behaviour → Behaviour → Behaviour
  let_be : List (Variable × Term) → Behaviour → Behaviour
  choose_value : Variable → Behaviour → Behaviour
  choose_gate : ℕ → List ℕ → Behaviour → Behaviour
  par_gate : ℕ → List ℕ → SynchronisationSet → Behaviour → Behaviour
  call : ℕ → List ℕ → List Term → Behaviour
  relabel : Relabelling → Behaviour → Behaviour

-- A process with its formal gates and parameters, its functionality, which is None for `noexit`, and its body.
pub record Process : Type 0 where
  pub name : List ℕ
  pub gates : List ℕ
  pub parameters : List Variable
  pub exit : Option (List ℕ)
  pub body : Behaviour

-- A specification: the names of all gates by their numbers, its own gates, parameters, functionality and body,
-- and the processes.
pub record Specification : Type 0 where
  pub name : List ℕ
  pub gate_names : List (List ℕ)
  pub gates : List ℕ
  pub parameters : List Variable
  pub exit : Option (List ℕ)
  pub body : Behaviour
  pub processes : List Process

-- The variables that the offers of an action ask for, in order.
abbrev pub asked_variables : List Offer → List Variable
asked_variables [] = []
asked_variables (give t ∷ offers) = asked_variables offers
asked_variables (ask x ∷ offers) = x ∷ asked_variables offers

-- The sorts of the values that an `exit` leaves open, in order.
abbrev pub open_sorts : List ExitValue → List ℕ
open_sorts [] = []
open_sorts (exit_value t ∷ values) = open_sorts values
open_sorts (any_of s ∷ values) = s ∷ open_sorts values

-- The numbers and the sorts of variables.
abbrev pub numbers_of : List Variable → List ℕ
numbers_of variables = map (λ (x : Variable). x.number) variables

abbrev pub sorts_of : List Variable → List ℕ
sorts_of variables = map (λ (x : Variable). x.sort) variables

-- The variables that a `let` binds, and their terms.
abbrev pub let_variables : List (Variable × Term) → List Variable
let_variables bindings = map (λ (b : Variable × Term). b.0) bindings

abbrev pub let_terms : List (Variable × Term) → List Term
let_terms bindings = map (λ (b : Variable × Term). b.1) bindings
