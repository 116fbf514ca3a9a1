-- The names of the variables that a behaviour binds, and where those of a state that moves lead to come from.
use Rattle.std.specs.Prelude.{◌≡◌, ℕ, List, [], ◌∷◌, ◌++◌, map}
use Rattle.lotos_base.specs.Term.{Term}
use Rattle.lotos_base.specs.Equation.{Data, Variable}
use Rattle.lotos_base.specs.Substitution.{Substitution}
use Rattle.behaviour_semantics.specs.Behaviour.{Behaviour, stop, exit_with, action, inner_action, guard, choice, parallel, hide, enable, disable, let_be, choose_value, choose_gate, par_gate, call, relabel, Process, asked_variables, let_variables}
use Rattle.behaviour_semantics.specs.Label.{Label}
use Rattle.behaviour_semantics.specs.Replacement.{with_values}
use Rattle.behaviour_semantics.specs.Shape.{Derivation}
use Rattle.behaviour_semantics.specs.Derives.{GivesMove}
use Rattle.behaviour_semantics.specs.Listing.{IsAmong}
use Rattle.behaviour_semantics.specs.Run.{Reaches}

abbrev pub names_of_variables : List Variable → List (List ℕ)
names_of_variables variables = map (λ (x : Variable). x.name) variables

-- The names of the variables that stand behind `?`, `let`, `choice` and `accept` in the behaviour, in the order of the text. Values
-- stand for all other variables of a state, and sorts, operations, gates and processes have their names elsewhere.
abbrev pub bound_names : Behaviour → List (List ℕ)
bound_names stop = []
bound_names (exit_with results) = []
bound_names (action g offers test b) = names_of_variables (asked_variables offers) ++ bound_names b
bound_names (inner_action b) = bound_names b
bound_names (guard test b) = bound_names b
bound_names (choice b c) = bound_names b ++ bound_names c
bound_names (parallel meet b c) = bound_names b ++ bound_names c
bound_names (hide gates b) = bound_names b
bound_names (enable b variables c) = bound_names b ++ (names_of_variables variables ++ bound_names c)
bound_names (disable b c) = bound_names b ++ bound_names c
bound_names (let_be bindings b) = names_of_variables (let_variables bindings) ++ bound_names b
bound_names (choose_value x b) = x.name ∷ bound_names b
bound_names (choose_gate g gates b) = bound_names b
bound_names (par_gate g gates meet b) = bound_names b
bound_names (call number gates arguments) = []
bound_names (relabel pairs b) = bound_names b

-- those in the bodies of processes
abbrev pub names_in_bodies : List Process → List (List ℕ)
names_in_bodies [] = []
names_in_bodies (process ∷ processes) = bound_names process.body ++ names_in_bodies processes

-- those that a behaviour can come to have
abbrev pub names_at_hand : List Process → Behaviour → List (List ℕ)
names_at_hand processes b = bound_names b ++ names_in_bodies processes

pub record MovesKeepNames : Type 0 where
  -- each name in the target of a move was at hand, with values as they are given and in canonical form
  pub moved :
      (data_ : Data) (represent : Term → Term) (processes : List Process) (b : Behaviour) (d : Derivation) (label : Label)
      (target : Behaviour) (name : List ℕ) →
      GivesMove data_ represent processes b d label target →
      IsAmong name (bound_names target) →
      IsAmong name (names_at_hand processes b)
  -- and so along moves
  pub reached :
      (data_ : Data) (represent : Term → Term) (processes : List Process) (b : Behaviour) (ds : List Derivation) (target : Behaviour)
      (name : List ℕ) →
      Reaches data_ represent processes b ds target →
      IsAmong name (bound_names target) →
      IsAmong name (names_at_hand processes b)
  -- values that are put in, as those of a start, bring and take none
  pub closed : (values : Substitution) (b : Behaviour) → bound_names (with_values values b) ≡ bound_names b
