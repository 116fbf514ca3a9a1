-- When two terms have a unifier, and what the pairs are that are a most general one.
use Rattle.std.specs.Prelude.{◌≡◌, ℕ, List}
use Rattle.lotos_base.specs.Signature.{Signature}
use Rattle.lotos_base.specs.Term.{Term}
use Rattle.lotos_base.specs.Sorting.{Occurs}
use Rattle.lotos_base.specs.Substitution.{Substitution, binding}
use Rattle.rewriting_theory.specs.Unification.{IsUnifier, IsMostGeneral, OccursInEither, KeepsTo}
use Rattle.sort_terms.specs.ProfiledTerm.{ProfiledTerm, bare, head_sort, IsOf}
use Rattle.term_match.specs.ProfiledInstance.{ProfiledSubstitution, profiled_instance, bare_pairs}
use Rattle.term_match.specs.Matched.{IsPair}

-- Over both terms a variable number has one sort.
abbrev pub HaveOneSortPerNumber : Term → Term → Type 0
HaveOneSortPerNumber s t = (n r q : ℕ) → OccursInEither s t n r → OccursInEither s t n q → r ≡ q

-- The terms have one sort, and some substitution makes them one.
abbrev pub HasUnifier : ProfiledTerm → ProfiledTerm → Type 0
HasUnifier left right =
    (head_sort left ≡ head_sort right) × ((values : Substitution) × IsUnifier (bare left) (bare right) values)

-- Some substitution that puts for each variable of the terms a term of the variable's sort makes the two terms one.
pub record HasSortedUnifier (left right : ProfiledTerm) : Type 0 where
  pub values : ProfiledSubstitution
  pub keeps_sorts : (n s : ℕ) → OccursInEither (bare left) (bare right) n s → head_sort (values n s) ≡ s
  pub makes_one : profiled_instance values left ≡ profiled_instance values right

-- The pairs unify the two terms, which have one sort: their substitution is a most general unifier that keeps to the
-- variables of the terms. Each pair is of a variable of one of the terms and has a term of the variable's sort, in which
-- no variable with a pair stands. What the pairs have is of each signature that both terms are of.
pub record IsUnifiedBy (left right : ProfiledTerm) (pairs : List (ℕ × ProfiledTerm)) : Type 0 where
  pub one_sort : head_sort left ≡ head_sort right
  pub general : IsMostGeneral (OccursInEither (bare left) (bare right)) (bare left) (bare right) (binding (bare_pairs pairs))
  pub keeps : KeepsTo (bare left) (bare right) (binding (bare_pairs pairs))
  pub sorts : (n : ℕ) (u : ProfiledTerm) → IsPair pairs n u → OccursInEither (bare left) (bare right) n (head_sort u)
  pub solved : (n m s : ℕ) (u v : ProfiledTerm) → IsPair pairs n u → IsPair pairs m v → ¬ Occurs n s (bare v)
  pub of_signature : (signature : Signature) (n : ℕ) (u : ProfiledTerm) → IsOf signature left → IsOf signature right
      → IsPair pairs n u → IsOf signature u
