-- Laws of terms with profiles: over a signature that they are of, they are the well-sorted terms.
use Rattle.std.specs.Prelude.{◌≡◌, ◌↔◌, ℕ}
use Rattle.lotos_base.specs.Signature.{Signature}
use Rattle.lotos_base.specs.Sorting.{HasSort}
use Rattle.sort_terms.specs.ProfiledTerm.{ProfiledTerm, bare, head_sort, FitsProfiles, IsOf}

-- a term that is of a signature has a sort there exactly where each operation has the arguments of its profile, and it is
-- the sort that the head tells
abbrev pub FittingTermsAreWellSorted : Type 0
FittingTermsAreWellSorted = (signature : Signature) (t : ProfiledTerm) (sort : ℕ) → IsOf signature t
    → HasSort signature (bare t) sort ↔ (FitsProfiles t × (head_sort t ≡ sort))

-- a term that has a sort over a signature is that of just one term with profiles that is of it
abbrev pub ProfilesAreDetermined : Type 0
ProfilesAreDetermined = (signature : Signature) (t u : ProfiledTerm) → IsOf signature t → IsOf signature u
    → bare t ≡ bare u → t ≡ u
