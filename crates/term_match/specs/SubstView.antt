-- The substitution that a substitution of the code stands for.
use Rattle.std.specs.Prelude.{ℕ, List, map}
use Rattle.sort_terms.specs.ProfiledTerm.{ProfiledTerm}
use Rattle.sort_terms.specs.SortedView.{profiled_in}
use Rattle.sort_terms.specs.declared.sorted.Sorted.{Sorted}
use Rattle.lotos_base.specs.Substitution.{Substitution, binding}
use Rattle.term_match.specs.ProfiledInstance.{ProfiledSubstitution, profiled_binding, bare_pairs}
use Rattle.term_match.specs.declared.substitutions.Subst.{Subst}

-- a pair of the code
abbrev pub profiled_pair : ℕ × Sorted → ℕ × ProfiledTerm
profiled_pair pair = (pair.0, profiled_in pair.1)

-- the pairs of the code
abbrev pub profiled_pairs : List (ℕ × Sorted) → List (ℕ × ProfiledTerm)
profiled_pairs pairs = map profiled_pair pairs

-- the substitution
abbrev pub substitution_of : Subst → Substitution
substitution_of subst = binding (bare_pairs (profiled_pairs subst.pairs.items))

-- the substitution with the profiles of its terms
abbrev pub profiled_substitution_of : Subst → ProfiledSubstitution
profiled_substitution_of subst = profiled_binding (profiled_pairs subst.pairs.items)
