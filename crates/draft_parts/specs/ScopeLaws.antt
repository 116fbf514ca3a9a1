-- A behaviour that is well formed once terms are put in is well formed in the scope of the variables that got them.
use Rattle.std.specs.Prelude.{◌≡◌, ◌⊎◌, ℕ, List, Some}
use Rattle.lotos_base.specs.Signature.{Signature, IsSort}
use Rattle.lotos_base.specs.Sorting.{HasSort}
use Rattle.lotos_base.specs.Term.{variable}
use Rattle.lotos_base.specs.Equation.{Variable}
use Rattle.lotos_base.specs.Substitution.{Substitution}
use Rattle.behaviour_semantics.specs.Behaviour.{Behaviour, Process}
use Rattle.behaviour_semantics.specs.Replacement.{with_values}
use Rattle.behaviour_semantics.specs.WellFormed.{sort_in, IsBehaviour}
use Rattle.behaviour_tree.specs.Closed.{IsFree}

-- The variable stays and has one sort in both scopes, or it gets a term of its sort and is in the inner scope.
abbrev pub IsGivenIn : Signature → List Variable → List Variable → Substitution → ℕ → ℕ → Type 0
IsGivenIn signature scope other values n s =
    ((values n s ≡ variable n s) × ((r : ℕ) → sort_in other n ≡ Some r → sort_in scope n ≡ Some r))
    ⊎ (HasSort signature (values n s) s × IsSort signature s × (sort_in scope n ≡ Some s))

-- where this holds of each free variable, what is well formed with the terms put in is well formed in the inner scope
abbrev pub PutPartsAreInScope : Type 0
PutPartsAreInScope =
    (signature : Signature) (names : ℕ) (processes : List Process) (scope other : List Variable) (values : Substitution) (b : Behaviour) →
    ((n s : ℕ) → IsFree n s b → IsGivenIn signature scope other values n s) →
    IsBehaviour signature names processes other (with_values values b) →
    IsBehaviour signature names processes scope b
