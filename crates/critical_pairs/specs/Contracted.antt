-- What is asked of a place in an instance, and how the variables of a pair are numbered.
use Rattle.std.specs.Prelude.{◌≡◌, ℕ, List, Some}
use Rattle.sort_terms.specs.ProfiledTerm.{ProfiledTerm, bare, head_sort}
use Rattle.term_match.specs.ProfiledInstance.{ProfiledSubstitution, profiled_instance}
use Rattle.term_match.specs.ProfiledPath.{profiled_subterm}
use Rattle.term_match.specs.Renumbering.{profiled_renaming}
use Rattle.term_match.specs.NewNumbers.{IsByFirstAppearance}
use Rattle.critical_pairs.specs.TwoSides.{PairTerms}

-- The path leads to a subterm of the instance of the term, and that has the sort of the part.
abbrev pub IsReplacedAt : List ℕ → ProfiledSubstitution → ProfiledTerm → ProfiledTerm → Type 0
IsReplacedAt path values part t =
    (old : ProfiledTerm) × (profiled_subterm path (profiled_instance values t) ≡ Some old) × (head_sort old ≡ head_sort part)

-- The terms with their variables numbered by first appearance in the peak.
pub record IsNumberedBy (before after : PairTerms) : Type 0 where
  pub number : ℕ → ℕ → ℕ
  pub by_appearance : IsByFirstAppearance number (bare before.peak)
  pub peak : after.peak ≡ profiled_instance (profiled_renaming number) before.peak
  pub left : after.left ≡ profiled_instance (profiled_renaming number) before.left
  pub right : after.right ≡ profiled_instance (profiled_renaming number) before.right
