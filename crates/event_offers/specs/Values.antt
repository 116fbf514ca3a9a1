-- Terms that the code puts for variables.
use Rattle.std.specs.Prelude.{◌≡◌, ℕ, zero, suc, List, [], ◌∷◌}
use Rattle.lotos_base.specs.Sorting.{Occurs}
use Rattle.lotos_base.specs.Substitution.{Substitution}
use Rattle.sort_terms.specs.ProfiledTerm.{ProfiledTerm, profiled_variable, bare, head_sort}
use Rattle.sort_terms.specs.SortedView.{profiled_in}
use Rattle.term_match.specs.ProfiledInstance.{ProfiledSubstitution, profiled_binding}
use Rattle.term_match.specs.SubstView.{profiled_pairs}
use Rattle.behaviour_tree.specs.BehaviourTerms.{profiles_of}
use Rattle.event_offers.specs.declared.valued.Values.{Values}
use Rattle.event_offers.specs.declared.valued.Values.TheVariants.{One, Paired, Listed}

-- the term that stands at the number of a variable; past the end it is a variable
abbrev pub profiled_listed : List ProfiledTerm → ProfiledSubstitution
profiled_listed [] n s = profiled_variable n s
profiled_listed (v ∷ values) zero s = v
profiled_listed (v ∷ values) (suc n) s = profiled_listed values n s

-- the terms as a substitution
abbrev pub profiled_values : Values → ProfiledSubstitution
profiled_values (One number value) = profiled_binding ((number, profiled_in value.now) ∷ [])
profiled_values (Paired pairs) = profiled_binding (profiled_pairs pairs.now)
profiled_values (Listed values) = profiled_listed (profiles_of values.now)

abbrev pub substitution_of_values : Values → Substitution
substitution_of_values values n s = bare (profiled_values values n s)

-- What is put for each variable of the term has the sort of that variable.
abbrev pub SuitsTerm : Values → ProfiledTerm → Type 0
SuitsTerm values t = (n s : ℕ) → Occurs n s (bare t) → head_sort (profiled_values values n s) ≡ s
