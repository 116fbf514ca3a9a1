-- Laws of images between two signatures.
use Rattle.std.specs.Prelude.{◌<◌, ℕ, length}
use Rattle.lotos_base.specs.Signature.{Signature, Operation, IsSort, IsOperation}
use Rattle.sort_terms.specs.ProfiledTerm.{ProfiledTerm, IsOf}
use Rattle.type_definitions.specs.ProfiledImage.{profile_in, profiled_image, IsImageProfile, KeepsProfiles}

-- Maps of numbers from one signature to the other: sorts become sorts, operations become operations whose sorts are the
-- images of their own.
pub record IsSignatureMap (old new : Signature) (to_sort to_operation : ℕ → ℕ) : Type 0 where
  pub sorts : (s : ℕ) → IsSort old s → IsSort new (to_sort s)
  pub operations : (f : ℕ) (o : Operation) → IsOperation old f o → to_operation f < length new.operations
  pub profiles : (f : ℕ) (o : Operation) → IsOperation old f o
      → IsImageProfile to_sort o (profile_in new.operations (to_operation f) o)

-- under such maps the image of a term of the one signature is a term of the other
abbrev pub ImagesAreOfTheSignature : Type 0
ImagesAreOfTheSignature = (old new : Signature) (to_sort to_operation : ℕ → ℕ) (t : ProfiledTerm)
    → IsSignatureMap old new to_sort to_operation → IsOf old t → IsOf new (profiled_image to_sort to_operation new.operations t)

-- and its operations keep their profiles
abbrev pub MapsKeepProfiles : Type 0
MapsKeepProfiles = (old new : Signature) (to_sort to_operation : ℕ → ℕ) (t : ProfiledTerm)
    → IsSignatureMap old new to_sort to_operation → IsOf old t → KeepsProfiles to_sort to_operation new.operations t
