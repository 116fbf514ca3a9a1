-- Images of terms that carry profiles: the maps are lists, and each operation gets the profile of its image.
use Rattle.std.specs.Prelude.{◌≡◌, ℕ, List, map, slice_index, slice_index_or}
use Rattle.lotos_base.specs.Signature.{Operation}
use Rattle.sort_terms.specs.ProfiledTerm.{ProfiledTerm, ProfiledTerms, profiled_variable, profiled_node, no_profiled_terms, profiled_term_then}

-- the new number of each old one, by its position; 0 past the end
abbrev pub number_in : List ℕ → ℕ → ℕ
number_in numbers n = slice_index numbers n

-- the operation of the number, or the old one where there is none
abbrev pub profile_in : List Operation → ℕ → Operation → Operation
profile_in operations number old = slice_index_or operations number old

abbrev mutual
  -- a term, node by node
  pub profiled_image : (ℕ → ℕ) → (ℕ → ℕ) → List Operation → ProfiledTerm → ProfiledTerm
  profiled_image to_sort to_operation operations (profiled_variable n s) = profiled_variable n (to_sort s)
  profiled_image to_sort to_operation operations (profiled_node f operation ts) =
      profiled_node (to_operation f) (profile_in operations (to_operation f) operation)
      (profiled_images to_sort to_operation operations ts)

  -- terms, one by one
  pub profiled_images : (ℕ → ℕ) → (ℕ → ℕ) → List Operation → ProfiledTerms → ProfiledTerms
  profiled_images to_sort to_operation operations no_profiled_terms = no_profiled_terms
  profiled_images to_sort to_operation operations (profiled_term_then t ts) =
      profiled_term_then (profiled_image to_sort to_operation operations t)
      (profiled_images to_sort to_operation operations ts)

-- the sorts of the one operation are the images of those of the other
abbrev pub IsImageProfile : (ℕ → ℕ) → Operation → Operation → Type 0
IsImageProfile to_sort old new = (new.arguments ≡ map to_sort old.arguments) × (new.result ≡ to_sort old.result)

abbrev mutual
  -- Each operation in the term becomes one whose sorts are the images of its own.
  pub KeepsProfiles : (ℕ → ℕ) → (ℕ → ℕ) → List Operation → ProfiledTerm → Type 0
  KeepsProfiles to_sort to_operation operations (profiled_variable n s) = Unit {0}
  KeepsProfiles to_sort to_operation operations (profiled_node f operation ts) =
      IsImageProfile to_sort operation (profile_in operations (to_operation f) operation)
      × KeepEachProfile to_sort to_operation operations ts

  -- So does each operation in the terms.
  pub KeepEachProfile : (ℕ → ℕ) → (ℕ → ℕ) → List Operation → ProfiledTerms → Type 0
  KeepEachProfile to_sort to_operation operations no_profiled_terms = Unit {0}
  KeepEachProfile to_sort to_operation operations (profiled_term_then t ts) =
      KeepsProfiles to_sort to_operation operations t × KeepEachProfile to_sort to_operation operations ts
