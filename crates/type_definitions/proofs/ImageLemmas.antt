-- Images of terms with profiles.
use Rattle.std.proofs.Common.{◌≡◌, ℕ, ◌+◌, ◌<◌, ◌≤◌, List, [], ◌∷◌, ◌++◌, get_or, take, length, map, refl, ap, sym, ◌∙◌, subst, arith}
use Rattle.std.specs.Prelude.{Some, None, slice_get}
use Rattle.std.proofs.lemmas.List.{take_more, length-map, get_or-map, get_or_past}
use Rattle.std.proofs.lemmas.Option.{slice_get-get_or}
use Rattle.lotos_base.specs.Signature.{Signature, Operation, IsSort, IsOperation}
use Rattle.lotos_base.specs.Term.{node, term_then}
use Rattle.sort_terms.specs.ProfiledTerm.{ProfiledTerm, ProfiledTerms, profiled_variable, profiled_node, no_profiled_terms, profiled_term_then, bare, all_bare, head_sort, FitsProfiles, FitArguments, IsOf, AreOf}
use Rattle.sort_terms.specs.TermView.{profiled_of, all_profiled}
use Rattle.sort_terms.specs.declared.terms.Term.{Term}
use Rattle.sort_terms.proofs.TermListLemmas.{with_last_profiled, all_profiled-append}
use Rattle.type_definitions.specs.Images.{term_image, terms_image}
use Rattle.type_definitions.specs.ProfiledImage.{profile_in, profiled_image, profiled_images, IsImageProfile, KeepsProfiles, KeepEachProfile}
use Rattle.type_definitions.specs.ImageLaws.{IsSignatureMap}

mutual
  pub image_bare : (to_sort to_operation : ℕ → ℕ) (operations : List Operation) (t : ProfiledTerm)
      → bare (profiled_image to_sort to_operation operations t) ≡ term_image to_sort to_operation (bare t)
  image_bare to_sort to_operation operations (profiled_variable n s) = refl
  image_bare to_sort to_operation operations (profiled_node f operation ts) =
      ap (λ us. node (to_operation f) us) (images_bare to_sort to_operation operations ts)

  pub images_bare : (to_sort to_operation : ℕ → ℕ) (operations : List Operation) (ts : ProfiledTerms)
      → all_bare (profiled_images to_sort to_operation operations ts) ≡ terms_image to_sort to_operation (all_bare ts)
  images_bare to_sort to_operation operations no_profiled_terms = refl
  images_bare to_sort to_operation operations (profiled_term_then t ts) =
      λ i. term_then (image_bare to_sort to_operation operations t i) (images_bare to_sort to_operation operations ts i)

pub image_sort : (to_sort to_operation : ℕ → ℕ) (operations : List Operation) (t : ProfiledTerm)
    → KeepsProfiles to_sort to_operation operations t
    → head_sort (profiled_image to_sort to_operation operations t) ≡ to_sort (head_sort t)
image_sort to_sort to_operation operations (profiled_variable n s) keeps = refl
image_sort to_sort to_operation operations (profiled_node f operation ts) keeps = keeps.0.1

mutual
  pub image_fits : (to_sort to_operation : ℕ → ℕ) (operations : List Operation) (t : ProfiledTerm) → FitsProfiles t
      → KeepsProfiles to_sort to_operation operations t → FitsProfiles (profiled_image to_sort to_operation operations t)
  image_fits to_sort to_operation operations (profiled_variable n s) h keeps = tt
  image_fits to_sort to_operation operations (profiled_node f operation ts) h keeps =
      subst (λ (sorts : List ℕ). FitArguments (profiled_images to_sort to_operation operations ts) sorts) (sym keeps.0.0)
      (images_fit to_sort to_operation operations ts operation.arguments h keeps.1)

  pub images_fit : (to_sort to_operation : ℕ → ℕ) (operations : List Operation) (ts : ProfiledTerms) (sorts : List ℕ)
      → FitArguments ts sorts → KeepEachProfile to_sort to_operation operations ts
      → FitArguments (profiled_images to_sort to_operation operations ts) (map to_sort sorts)
  images_fit to_sort to_operation operations no_profiled_terms [] h keeps = tt
  images_fit to_sort to_operation operations no_profiled_terms (s ∷ ss) h keeps = absurd h
  images_fit to_sort to_operation operations (profiled_term_then t ts) [] h keeps = absurd h
  images_fit to_sort to_operation operations (profiled_term_then t ts) (s ∷ ss) h keeps = (
    image_sort to_sort to_operation operations t keeps.0 ∙ ap to_sort h.0,
    image_fits to_sort to_operation operations t h.1 keeps.0,
    images_fit to_sort to_operation operations ts ss h.2 keeps.1,
  )

images-with_last : (to_sort to_operation : ℕ → ℕ) (operations : List Operation) (ts : ProfiledTerms) (t : ProfiledTerm)
    → profiled_images to_sort to_operation operations (with_last_profiled ts t)
    ≡ with_last_profiled (profiled_images to_sort to_operation operations ts) (profiled_image to_sort to_operation operations t)
images-with_last to_sort to_operation operations no_profiled_terms t = refl
images-with_last to_sort to_operation operations (profiled_term_then u us) t =
    ap (λ ts. profiled_term_then (profiled_image to_sort to_operation operations u) ts)
    (images-with_last to_sort to_operation operations us t)

-- a list that one more image was added to
pub images_more : (to_sort to_operation : ℕ → ℕ) (operations : List Operation) (xs made new : List Term) (i : ℕ) (x y : Term)
    → i < length xs → x ≡ get_or xs i x → new ≡ made ++ y ∷ []
    → all_profiled made ≡ profiled_images to_sort to_operation operations (all_profiled (take i xs))
    → profiled_of y ≡ profiled_image to_sort to_operation operations (profiled_of x)
    → all_profiled new ≡ profiled_images to_sort to_operation operations (all_profiled (take (i + 1) xs))
images_more to_sort to_operation operations xs made new i x y h e is so_far one =
    ap all_profiled is ∙ all_profiled-append made y
    ∙ ap (λ (ts : ProfiledTerms). with_last_profiled ts (profiled_of y)) so_far
    ∙ ap (λ (t : ProfiledTerm). with_last_profiled (profiled_images to_sort to_operation operations (all_profiled (take i xs))) t) one
    ∙ sym (ap (profiled_images to_sort to_operation operations)
    (ap all_profiled (take_more xs i x h ∙ ap (λ (z : Term). take i xs ++ z ∷ []) (sym e)) ∙ all_profiled-append (take i xs) x)
    ∙ images-with_last to_sort to_operation operations (all_profiled (take i xs)) (profiled_of x))

-- ---- Laws.

mutual
  pub image_of_signature : (old new : Signature) (to_sort to_operation : ℕ → ℕ) (t : ProfiledTerm)
      → IsSignatureMap old new to_sort to_operation → IsOf old t
      → IsOf new (profiled_image to_sort to_operation new.operations t)
  image_of_signature old new to_sort to_operation (profiled_variable n s) m h = m.sorts s h
  image_of_signature old new to_sort to_operation (profiled_node f operation ts) m h = (
    slice_get-get_or new.operations (to_operation f) operation (m.operations f operation h.0),
    images_of_signature old new to_sort to_operation ts m h.1,
  )

  pub images_of_signature : (old new : Signature) (to_sort to_operation : ℕ → ℕ) (ts : ProfiledTerms)
      → IsSignatureMap old new to_sort to_operation → AreOf old ts
      → AreOf new (profiled_images to_sort to_operation new.operations ts)
  images_of_signature old new to_sort to_operation no_profiled_terms m h = tt
  images_of_signature old new to_sort to_operation (profiled_term_then t ts) m h =
      (image_of_signature old new to_sort to_operation t m h.0, images_of_signature old new to_sort to_operation ts m h.1)

mutual
  pub keeps_profiles : (old new : Signature) (to_sort to_operation : ℕ → ℕ) (t : ProfiledTerm)
      → IsSignatureMap old new to_sort to_operation → IsOf old t → KeepsProfiles to_sort to_operation new.operations t
  keeps_profiles old new to_sort to_operation (profiled_variable n s) m h = tt
  keeps_profiles old new to_sort to_operation (profiled_node f operation ts) m h =
      (m.profiles f operation h.0, keep_each_profile old new to_sort to_operation ts m h.1)

  pub keep_each_profile : (old new : Signature) (to_sort to_operation : ℕ → ℕ) (ts : ProfiledTerms)
      → IsSignatureMap old new to_sort to_operation → AreOf old ts → KeepEachProfile to_sort to_operation new.operations ts
  keep_each_profile old new to_sort to_operation no_profiled_terms m h = tt
  keep_each_profile old new to_sort to_operation (profiled_term_then t ts) m h =
      (keeps_profiles old new to_sort to_operation t m h.0, keep_each_profile old new to_sort to_operation ts m h.1)
