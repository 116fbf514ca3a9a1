-- The maps of sorts and operations from the base into an actualisation.
use Rattle.std.proofs.Common.{◌≡◌, ℕ, ◌+◌, ◌<◌, Bool, true, false, List, [], ◌∷◌, length, map, get_or, refl, ap, sym, ◌∙◌, subst, arith}
use Rattle.std.specs.Prelude.{Option, Some, None, slice_get, if◌then◌else◌}
use Rattle.std.specs.Option.{option_map}
use Rattle.std.proofs.lemmas.Option.{slice_get_within, slice_get-get_or, slice_get-map, get_or_from_slice_get}
use Rattle.type_presentations.proofs.UnionSignatures.{one_profile}
use Rattle.lotos_base.proofs.Members.{as_long}
use Rattle.lotos_base.specs.Signature.{Sort, Operation}
use Rattle.syntax_trees.specs.WrittenItem.{WrittenPair}
use Rattle.sort_terms.specs.ReadingOutcome.{one_name}
use Rattle.type_definitions.specs.Images.{operation_image}
use Rattle.type_definitions.specs.ProfiledImage.{profile_in, IsImageProfile}
use Rattle.type_definitions.specs.ImageLaws.{IsSignatureMap}
use Rattle.type_definitions.specs.Presentation.{is_same_sort, is_marked_number, first_position}
use Rattle.type_definitions.specs.Union.{sort_place_in, operation_place_in}
use Rattle.type_definitions.specs.UnionLaws.{IsIn}
use Rattle.type_definitions.specs.Renaming.{pair_for, operation_under}
use Rattle.type_definitions.specs.Actualisation.{Actualising, actualisation, actualised_sort, actualised_sorts, actualised_operation, actualised_operations, actual_sort, actual_name, actual_operation, formal_sorts_of, formal_operations_of, other_sorts_of, other_operations_of, other_sort_image, other_operation_image, sort_becomes, operation_becomes, operation_renamer, is_actual}
use Rattle.type_definitions.proofs.WithNewLemmas.{first_appearances, position_found}
use Rattle.type_presentations.proofs.SignatureLemmas.{IsLarger}
use Rattle.type_actualisation.specs.ActualisationLaws.{HasActuals}
use Rattle.type_actualisation.proofs.FormalLemmas.{marked_there, unmarked_there, sort_has_actual, operation_has_actual, taken_form, form_taken, actual_profile}

-- ---- Lists.

-- and each member has its image there
pub image_there : {A B : Type 0} (f : A → B) (xs : List A) (x : A) → IsIn xs x → IsIn (map f xs) (f x)
image_there {A = A} f xs x at = (at.0, slice_get-map f xs at.0 ∙ ap (λ (o : Option A). option_map f o) at.1)

-- counted from the first
from_zero : {b : Bool} (marks : List ℕ) (n : ℕ) → is_marked_number marks n ≡ b → is_marked_number marks (0 + n) ≡ b
from_zero marks n is = let zeroth : 0 + n ≡ n = omega arith in ap (λ (k : ℕ). is_marked_number marks k) zeroth ∙ is

-- ---- The actual types.

pub sorts_stay : (a : Actualising) (i : ℕ) (s : Sort) → slice_get a.actual.signature.sorts i ≡ Some s
    → slice_get (actualised_sorts a) i ≡ Some s
sorts_stay a i s found =
    first_appearances.sorts.stays a.actual.signature.sorts (map (other_sort_image a) (other_sorts_of a.base.presentation)) i s found

pub operations_stay : (a : Actualising) (i : ℕ) (o : Operation) → slice_get a.actual.signature.operations i ≡ Some o
    → slice_get (actualised_operations a) i ≡ Some o
operations_stay a i o found =
    first_appearances.operations.stays a.actual.signature.operations
    (map (other_operation_image a) (other_operations_of a.base.presentation)) i o found

pub actual_is_within : (a : Actualising) → IsLarger a.actual.signature (actualisation a).signature
actual_is_within a = record {
  sorts = as_long a.actual.signature.sorts (actualised_sorts a) (sorts_stay a);
  operations = λ f o found. operations_stay a f o found;
}

-- ---- Sorts of the base.

sort_becomes_one : (a : Actualising) → HasActuals a → (s : ℕ) (x : Sort) → slice_get a.base.presentation.signature.sorts s ≡ Some x
    → sort_becomes a s (Some x) < length (actualised_sorts a)
sort_becomes_one a has s x found = go (is_marked_number a.base.presentation.formal_sorts s) refl
  where
    wanted : List ℕ
    wanted = actual_name x.name (pair_for a.pairs.sort_pairs x.name)

    go : (b : Bool) → is_marked_number a.base.presentation.formal_sorts s ≡ b
        → (if b then actual_sort a x else sort_place_in (actualised_sorts a) (Some (other_sort_image a x))) < length (actualised_sorts a)
    go true is =
        let formal = marked_there a.base.presentation.formal_sorts 0 s a.base.presentation.signature.sorts x found
        (from_zero a.base.presentation.formal_sorts s is) in
        let at =
        position_found (λ (r : Sort). one_name r.name wanted) a.actual.signature.sorts
        (sort_has_actual a (formal_sorts_of a.base.presentation) formal.0 x has.sorts formal.1) in
        slice_get_within (actualised_sorts a) (actual_sort a x) at.0 (sorts_stay a (actual_sort a x) at.0 at.1)
    go false is =
        let other = unmarked_there a.base.presentation.formal_sorts 0 s a.base.presentation.signature.sorts x found
        (from_zero a.base.presentation.formal_sorts s is) in
        let at =
        first_appearances.sorts.comes a.actual.signature.sorts (map (other_sort_image a) (other_sorts_of a.base.presentation))
        (other_sort_image a x) (image_there (other_sort_image a) (other_sorts_of a.base.presentation) x other) in
        slice_get_within (actualised_sorts a) (first_position (is_same_sort (other_sort_image a x)) (actualised_sorts a)) at.0 at.1

sort_goes : (a : Actualising) → HasActuals a → (s : ℕ) (xs : List Sort) → xs ≡ a.base.presentation.signature.sorts → s < length xs
    → actualised_sort a s < length (actualised_sorts a)
sort_goes a has s [] is within = absurd (omega arith)
sort_goes a has s (x ∷ xs) is within =
    let found : slice_get a.base.presentation.signature.sorts s ≡ Some (get_or (x ∷ xs) s x) =
    ap (λ (ys : List Sort). slice_get ys s) (sym is) ∙ slice_get-get_or (x ∷ xs) s x within in
    subst (λ (o : Option Sort). sort_becomes a s o < length (actualised_sorts a)) (sym found)
    (sort_becomes_one a has s (get_or (x ∷ xs) s x) found)

-- ---- Operations of the base.

-- a pair changes no profile
pub under_profile : (type_name : List ℕ) (pair : Option WrittenPair) (o : Operation)
    → ((operation_under type_name pair o).arguments ≡ o.arguments) × ((operation_under type_name pair o).result ≡ o.result)
under_profile type_name None o = (refl, refl)
under_profile type_name (Some pair) o = (refl, refl)

-- the number has an operation with the image of the profile
abbrev IsThere : Actualising → ℕ → Operation → Type 0
IsThere a number o = (u : Operation) × (slice_get (actualised_operations a) number ≡ Some u)
    × ((u.arguments ≡ map (actualised_sort a) o.arguments) × (u.result ≡ actualised_sort a o.result))

operation_becomes_one : (a : Actualising) → HasActuals a → (f : ℕ) (o : Operation)
    → slice_get a.base.presentation.signature.operations f ≡ Some o → IsThere a (operation_becomes a f (Some o)) o
operation_becomes_one a has f o found = go (is_marked_number a.base.presentation.formal_operations f) refl
  where
    image : Operation
    image = operation_image (actualised_sort a) o

    go : (b : Bool) → is_marked_number a.base.presentation.formal_operations f ≡ b
        → IsThere a (if b then actual_operation a o else operation_place_in (actualised_operations a) (Some (other_operation_image a o))) o
    go true is =
        let formal = marked_there a.base.presentation.formal_operations 0 f a.base.presentation.signature.operations o found
        (from_zero a.base.presentation.formal_operations f is) in
        let at =
        position_found (is_actual a o (taken_form a o)) a.actual.signature.operations
        (form_taken a o (operation_has_actual a (formal_operations_of a.base.presentation) formal.0 o has.operations formal.1)) in
        (at.0, operations_stay a (actual_operation a o) at.0 at.1, actual_profile a o (taken_form a o) at.0 at.2)
    go false is =
        let other = unmarked_there a.base.presentation.formal_operations 0 f a.base.presentation.signature.operations o found
        (from_zero a.base.presentation.formal_operations f is) in
        let at =
        first_appearances.operations.comes a.actual.signature.operations
        (map (other_operation_image a) (other_operations_of a.base.presentation))
        (other_operation_image a o) (image_there (other_operation_image a) (other_operations_of a.base.presentation) o other) in
        let same = one_profile (other_operation_image a o) at.0 at.2 in
        let under = under_profile a.type_name (operation_renamer a o) image in
        (at.0, at.1, (same.0 ∙ under.0, same.1 ∙ under.1))

operation_goes : (a : Actualising) → HasActuals a → (f : ℕ) (o : Operation)
    → slice_get a.base.presentation.signature.operations f ≡ Some o → IsThere a (actualised_operation a f) o
operation_goes a has f o found =
    subst (λ (x : Option Operation). IsThere a (operation_becomes a f x) o) (sym found) (operation_becomes_one a has f o found)

profile_goes : (a : Actualising) (number : ℕ) (o : Operation) → IsThere a number o
    → IsImageProfile (actualised_sort a) o (profile_in (actualised_operations a) number o)
profile_goes a number o there =
    let is : profile_in (actualised_operations a) number o ≡ there.0 =
    get_or_from_slice_get (actualised_operations a) number there.0 o there.1 in
    (ap (λ (u : Operation). u.arguments) is ∙ there.2.0, ap (λ (u : Operation). u.result) is ∙ there.2.1)

pub base_goes : (a : Actualising) → HasActuals a
    → IsSignatureMap a.base.presentation.signature (actualisation a).signature (actualised_sort a) (actualised_operation a)
base_goes a has = record {
  sorts = λ s within. sort_goes a has s a.base.presentation.signature.sorts refl within;
  operations = λ f o found.
      let there = operation_goes a has f o found in
      slice_get_within (actualised_operations a) (actualised_operation a f) there.0 there.1;
  profiles = λ f o found. profile_goes a (actualised_operation a f) o (operation_goes a has f o found);
}
