-- The variables of a term from left to right, what they have, and the term with that put for them.
use Rattle.std.specs.Prelude.{◌≡◌, ◌⊎◌, ℕ, List, [], ◌∷◌, ◌++◌, Bool, true, false, Some, nat_eq, if◌then◌else◌, map, slice_get, IsTrue}
use Rattle.sort_terms.specs.ProfiledTerm.{ProfiledTerm, ProfiledTerms, profiled_variable, profiled_node, no_profiled_terms, profiled_term_then}
use Rattle.term_match.specs.ProfiledInstance.{ProfiledSubstitution, profiled_binding, profiled_instance, profiled_instances}
use Rattle.term_match.specs.Search.{looked_up}

abbrev mutual
  -- The variables of the term, from left to right, each as often as it stands there.
  pub profiled_variables_of : ProfiledTerm → List (ℕ × ℕ)
  profiled_variables_of (profiled_variable n s) = (n, s) ∷ []
  profiled_variables_of (profiled_node f operation ts) = all_profiled_variables_of ts

  -- Those of the terms of a list.
  pub all_profiled_variables_of : ProfiledTerms → List (ℕ × ℕ)
  all_profiled_variables_of no_profiled_terms = []
  all_profiled_variables_of (profiled_term_then t ts) = profiled_variables_of t ++ all_profiled_variables_of ts

-- what a variable has
abbrev pub value_by : ProfiledSubstitution → ℕ × ℕ → ProfiledTerm
value_by values v = values v.0 v.1

-- what each of the variables has
abbrev pub values_by : ProfiledSubstitution → List (ℕ × ℕ) → List ProfiledTerm
values_by values vs = map (value_by values) vs

-- one of the variables has the number
abbrev pub is_wanted_in : List (ℕ × ℕ) → ℕ → Bool
is_wanted_in [] n = false
is_wanted_in (v ∷ vs) n = if nat_eq v.0 n then true else is_wanted_in vs n

-- The pair at the place is the first one with the number.
pub record IsPlaceOf (n : ℕ) (pairs : List (ℕ × ProfiledTerm)) (i : ℕ) : Type 0 where
  pub value : ProfiledTerm
  pub is_value : looked_up n pairs ≡ Some value
  pub is_at : slice_get pairs i ≡ Some (n, value)

-- The term is what the pairs have for the variable, and they keep what they have for each other number, and for this one
-- where it is wanted again.
pub record IsGiven (n s : ℕ) (again : Bool) (before after : List (ℕ × ProfiledTerm)) (made : ProfiledTerm) : Type 0 where
  pub value : made ≡ profiled_binding before n s
  pub kept : (m : ℕ) → IsTrue again ⊎ ¬ (m ≡ n) → looked_up m after ≡ looked_up m before

-- Where the list before begins with what the variables of the term have, the term made is the instance, and the list after is
-- the rest.
abbrev pub IsFilled : ProfiledTerm → List ProfiledTerm → List ProfiledTerm → ProfiledTerm → Type 0
IsFilled t before after made = (values : ProfiledSubstitution) (rest : List ProfiledTerm)
    → before ≡ values_by values (profiled_variables_of t) ++ rest → (made ≡ profiled_instance values t) × (after ≡ rest)

-- The same for the terms of a list.
abbrev pub AreFilled : ProfiledTerms → List ProfiledTerm → List ProfiledTerm → ProfiledTerms → Type 0
AreFilled ts before after made = (values : ProfiledSubstitution) (rest : List ProfiledTerm)
    → before ≡ values_by values (all_profiled_variables_of ts) ++ rest → (made ≡ profiled_instances values ts) × (after ≡ rest)
