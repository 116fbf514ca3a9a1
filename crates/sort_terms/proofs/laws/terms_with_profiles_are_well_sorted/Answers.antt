use Rattle.std.proofs.Common.{ℕ, subst}
use Rattle.lotos_base.specs.Sorting.{HasSort}
use Rattle.sort_terms.specs.ProfiledTerm.{bare}
use Rattle.sort_terms.proofs.ProfiledTermLemmas.{fitting_has_sort, sorted_fits, profiles_determined}
use Rattle.sort_terms.proofs.laws.terms_with_profiles_are_well_sorted.Goals as goal

pub returns-clause-sorts : goal.returns-clause-sorts
returns-clause-sorts c = λ signature t sort is_of. (
  sorted_fits signature t sort is_of,
  (λ h. subst (λ (s : ℕ). HasSort signature (bare t) s) h.1 (fitting_has_sort signature t is_of h.0)),
)

pub returns-clause-determined : goal.returns-clause-determined
returns-clause-determined c = profiles_determined
