-- What ground values put for the variables of a scope make of a behaviour. An environment is a list of variable
-- numbers with ground terms; the first pair with a number counts.
use Rattle.std.specs.Prelude.{◌≡◌, ℕ, List, [], ◌++◌, Some}
use Rattle.lotos_base.specs.Signature.{Signature}
use Rattle.lotos_base.specs.Term.{Term}
use Rattle.lotos_base.specs.Sorting.{IsGround, IsGroundOf}
use Rattle.lotos_base.specs.Equation.{Variable}
use Rattle.lotos_base.specs.Substitution.{Substitution, binding}
use Rattle.behaviour_semantics.specs.Behaviour.{Behaviour, Process, sorts_of}
use Rattle.behaviour_semantics.specs.Replacement.{with_values, binding_of}
use Rattle.behaviour_semantics.specs.Rule.{AreValues}
use Rattle.behaviour_semantics.specs.WellFormed.{Every, sort_in, IsBehaviour}

-- Each variable of the scope is given a ground term of the sort that it has there.
abbrev pub Closes : Signature → List Variable → Substitution → Type 0
Closes signature scope values = (n s : ℕ) → sort_in scope n ≡ Some s → IsGroundOf signature s (values n s)

-- The terms of an environment are ground.
abbrev pub AreGroundPairs : List (ℕ × Term) → Type 0
AreGroundPairs pairs = Every (λ (pair : ℕ × Term). IsGround pair.1) pairs

-- The two substitutions give each variable of the scope one term.
abbrev pub AgreeIn : List Variable → Substitution → Substitution → Type 0
AgreeIn scope first second = (n s : ℕ) → sort_in scope n ≡ Some s → first n s ≡ second n s

pub record ValuesClose : Type 0 where
  -- values of their sorts for all variables of the scope make the behaviour closed and well formed
  pub closed :
      (signature : Signature) (names : ℕ) (processes : List Process) (scope : List Variable) (values : Substitution) (b : Behaviour) →
      IsBehaviour signature names processes scope b →
      Closes signature scope values →
      IsBehaviour signature names processes [] (with_values values b)
  -- values of the sorts of listed variables, one by one, are such values
  pub listed :
      (signature : Signature) (variables : List Variable) (terms : List Term) →
      AreValues signature (sorts_of variables) terms →
      Closes signature variables (binding_of variables terms)
  -- values for the inner variables of a scope leave the outer ones
  pub inner_closed :
      (signature : Signature) (names : ℕ) (processes : List Process) (variables scope : List Variable) (terms : List Term) (b : Behaviour) →
      AreValues signature (sorts_of variables) terms →
      IsBehaviour signature names processes (variables ++ scope) b →
      IsBehaviour signature names processes scope (with_values (binding_of variables terms) b)
  -- an environment and then another one are put in as one environment
  pub in_turn :
      (first second : List (ℕ × Term)) (b : Behaviour) →
      AreGroundPairs first →
      with_values (binding second) (with_values (binding first) b) ≡ with_values (binding (first ++ second)) b
  -- what is put for variables that are not in scope makes no difference
  pub agreeing :
      (signature : Signature) (names : ℕ) (processes : List Process) (scope : List Variable) (first second : Substitution) (b : Behaviour) →
      IsBehaviour signature names processes scope b →
      AgreeIn scope first second →
      with_values first b ≡ with_values second b
  -- so a closed behaviour stays as it is
  pub unchanged :
      (signature : Signature) (names : ℕ) (processes : List Process) (values : Substitution) (b : Behaviour) →
      IsBehaviour signature names processes [] b →
      with_values values b ≡ b
