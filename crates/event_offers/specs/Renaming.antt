-- What renamings of the code do to the numbers of variables.
use Rattle.std.specs.Prelude.{ℕ, ◌+◌, ◌-◌, nat_lt, if◌then◌else◌, slice_get, unwrap_or}
use Rattle.lotos_base.specs.Substitution.{Substitution, renaming}
use Rattle.sort_terms.specs.ProfiledTerm.{ProfiledTerm, profiled_variable}
use Rattle.term_match.specs.ProfiledInstance.{ProfiledSubstitution, profiled_instance}
use Rattle.event_offers.specs.declared.renaming.Renaming.{Renaming}
use Rattle.event_offers.specs.declared.renaming.Renaming.TheVariants.{Raised, Lowered, Placed}

-- what a number becomes
abbrev pub number_renamed : Renaming → ℕ → ℕ
number_renamed (Raised from by) n = if nat_lt n from then n else n + by
number_renamed (Lowered by) n = n - by
number_renamed (Placed places) n = unwrap_or (slice_get places.items n) n

-- the renaming as a substitution
abbrev pub renaming_of : Renaming → Substitution
renaming_of r = renaming (λ n s. number_renamed r n)

abbrev pub profiled_renaming_of : Renaming → ProfiledSubstitution
profiled_renaming_of r n s = profiled_variable (number_renamed r n) s

-- two terms with terms put in for their variables
abbrev pub pair_instance : ProfiledSubstitution → ProfiledTerm × ProfiledTerm → ProfiledTerm × ProfiledTerm
pair_instance values pair = (profiled_instance values pair.0, profiled_instance values pair.1)
