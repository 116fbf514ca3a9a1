-- Environments without the variables that a binder binds.
use Rattle.std.specs.Prelude.{ℕ, List, [], ◌∷◌, if◌then◌else◌}
use Rattle.lotos_base.specs.Substitution.{is_listed}
use Rattle.sort_terms.specs.ProfiledTerm.{ProfiledTerm, profiled_variable}
use Rattle.term_match.specs.ProfiledInstance.{ProfiledSubstitution}

-- the pairs whose numbers are not listed
abbrev pub unlisted_pairs : List ℕ → List (ℕ × ProfiledTerm) → List (ℕ × ProfiledTerm)
unlisted_pairs numbers [] = []
unlisted_pairs numbers (pair ∷ pairs) =
    if is_listed numbers pair.0 then unlisted_pairs numbers pairs else pair ∷ unlisted_pairs numbers pairs

-- the substitution that leaves the variables with the listed numbers
abbrev pub profiled_without : List ℕ → ProfiledSubstitution → ProfiledSubstitution
profiled_without numbers values n s = if is_listed numbers n then profiled_variable n s else values n s
