-- Steps of unification: what the first disagreement of two terms asks for, and what binding a variable makes of the pairs.
use Rattle.std.specs.Prelude.{◌≡◌, ℕ, List, [], ◌∷◌, ◌++◌, map, nat_eq, if◌then◌else◌}
use Rattle.lotos_base.specs.Term.{Term}
use Rattle.lotos_base.specs.Sorting.{Occurs}
use Rattle.sort_terms.specs.ProfiledTerm.{ProfiledTerm, head_sort}
use Rattle.term_match.specs.ProfiledInstance.{ProfiledSubstitution, profiled_instance, profiled_binding}
use Rattle.term_match.specs.Disagreement.{TermDisagreement, agreed, clashing, binds}

-- What is to be done: nothing more, since the terms are one; nothing more, since they have no unifier; or a term is to be
-- put for the variable with a number.
pub data Demand : Type 0 where
  nothing_more : Demand
  given_up : Demand
  put_for : ℕ → ProfiledTerm → Demand

-- What a disagreement asks for. A variable and a term of another sort have no unifier.
abbrev pub asked : TermDisagreement → Demand
asked agreed = nothing_more
asked clashing = given_up
asked (binds n s t) = if nat_eq (head_sort t) s then put_for n t else given_up

-- The term put for the variable with this number.
abbrev pub one_binding : ℕ → ProfiledTerm → ProfiledSubstitution
one_binding n t = profiled_binding ((n, t) ∷ [])

-- a pair with the substitution put into its term
abbrev pub instance_of_pair : ProfiledSubstitution → ℕ × ProfiledTerm → ℕ × ProfiledTerm
instance_of_pair values pair = (pair.0, profiled_instance values pair.1)

-- the pairs with the substitution put into their terms
abbrev pub instances_of_pairs : ProfiledSubstitution → List (ℕ × ProfiledTerm) → List (ℕ × ProfiledTerm)
instances_of_pairs values pairs = map (instance_of_pair values) pairs

-- The pairs with one more, whose term is put for its variable in those before.
abbrev pub bound_pairs : ℕ → ProfiledTerm → List (ℕ × ProfiledTerm) → List (ℕ × ProfiledTerm)
bound_pairs n t pairs = instances_of_pairs (one_binding n t) pairs ++ (n, t) ∷ []

-- The variable with this number has no other sort than this one in the term.
abbrev pub HasOneSortAt : ℕ → ℕ → Term → Type 0
HasOneSortAt n s t = (r : ℕ) → Occurs n r t → r ≡ s

-- The substitution puts for each variable of the term one whose head has its sort.
abbrev pub IsPutSorted : ProfiledSubstitution → Term → Type 0
IsPutSorted values t = (n s : ℕ) → Occurs n s t → head_sort (values n s) ≡ s
