-- The signature of a union, and the maps of numbers into it.
use Rattle.std.proofs.Common.{◌≡◌, ℕ, ◌<◌, Bool, true, List, [], ◌∷◌, inl, inr, length, map, get_or, refl, ap, sym, ◌∙◌, subst, arith}
use Rattle.std.specs.Prelude.{Option, Some, None, slice_get, ◌&&◌, nat_eq}
use Rattle.std.specs.Option.{option_map}
use Rattle.std.specs.Str.{bytes_eq}
use Rattle.std.proofs.lemmas.Bool.{eqb-true, and_parts}
use Rattle.std.proofs.lemmas.Option.{none-some, same_Some, slice_get_within, slice_get-get_or, slice_get-map, get_or_from_slice_get}
use Rattle.std.proofs.lemmas.Slice.Eq.{bytes_eq-Decides}
use Rattle.lotos_base.proofs.Members.{as_long}
use Rattle.lotos_base.specs.Signature.{Sort, Operation, IsSort, IsWellFormedSignature}
use Rattle.lotos_base.specs.Twins.{form_eq}
use Rattle.sort_terms.specs.ReadingOutcome.{one_name}
use Rattle.sort_terms.specs.WellFormedTest.{all_differ, are_one_sort, are_one_operation}
use Rattle.type_definitions.specs.Images.{operation_image}
use Rattle.type_definitions.specs.ProfiledImage.{profile_in, IsImageProfile}
use Rattle.type_definitions.specs.ImageLaws.{IsSignatureMap}
use Rattle.type_definitions.specs.Presentation.{Presentation, is_same_operation}
use Rattle.type_definitions.specs.Union.{joined_presentation, joined_sort, joined_operation, coming_operations}
use Rattle.type_definitions.specs.UnionLaws.{IsIn}
use Rattle.type_definitions.proofs.WithNewLemmas.{unions}
use Rattle.type_presentations.proofs.SignatureLemmas.{IsLarger, larger_sort, made_well_formed}

-- operations that are one have one profile
pub one_profile : (o p : Operation) → is_same_operation o p ≡ true → (p.arguments ≡ o.arguments) × (p.result ≡ o.result)
one_profile o p h =
    let names : Bool = one_name o.name p.name && form_eq o.form p.form in
    let profiles : Bool = bytes_eq o.arguments p.arguments && nat_eq o.result p.result in
    let one = and_parts (are_one_operation o p) (one_name o.origin p.origin) h in
    let back = and_parts names profiles one.0 in
    let parts = and_parts (bytes_eq o.arguments p.arguments) (nat_eq o.result p.result) back.1 in
    (sym ((bytes_eq-Decides o.arguments p.arguments).0 parts.0), sym (eqb-true o.result p.result parts.1))

-- ---- The first signature is within that of the union.

pub union_is_larger : (p q : Presentation) → IsLarger p.signature (joined_presentation p q).signature
union_is_larger p q = record {
  sorts = as_long p.signature.sorts (joined_presentation p q).signature.sorts (λ i s found. unions.sorts_stay p q i s found);
  operations = λ f o found. unions.operations_stay p q f o found;
}

-- ---- The second signature goes into that of the union.

sort_there : (p q : Presentation) (s : ℕ) (x : Sort) → slice_get q.signature.sorts s ≡ Some x
    → joined_sort p q s < length (joined_presentation p q).signature.sorts
sort_there p q s x found =
    let at = unions.sorts_come p q s x found in slice_get_within (joined_presentation p q).signature.sorts (joined_sort p q s) at.0 at.1

sort_within : (p q : Presentation) (s : ℕ) (xs : List Sort) → xs ≡ q.signature.sorts → s < length xs
    → joined_sort p q s < length (joined_presentation p q).signature.sorts
sort_within p q s [] is within = absurd (omega arith)
sort_within p q s (x ∷ xs) is within =
    sort_there p q s (get_or (x ∷ xs) s x)
    (ap (λ (ys : List Sort). slice_get ys s) (sym is) ∙ slice_get-get_or (x ∷ xs) s x within)

operation_there : (p q : Presentation) (f : ℕ) (o : Operation) → slice_get q.signature.operations f ≡ Some o
    → (u : Operation) × (slice_get (joined_presentation p q).signature.operations (joined_operation p q f) ≡ Some u)
    × (is_same_operation (operation_image (joined_sort p q) o) u ≡ true)
operation_there p q f o found =
    unions.operations_come p q f (operation_image (joined_sort p q) o)
    (slice_get-map (operation_image (joined_sort p q)) q.signature.operations f
    ∙ ap (λ (x : Option Operation). option_map (operation_image (joined_sort p q)) x) found)

profile_there : (p q : Presentation) (f : ℕ) (o : Operation) → slice_get q.signature.operations f ≡ Some o
    → IsImageProfile (joined_sort p q) o (profile_in (joined_presentation p q).signature.operations (joined_operation p q f) o)
profile_there p q f o found =
    let at = operation_there p q f o found in
    let is : profile_in (joined_presentation p q).signature.operations (joined_operation p q f) o ≡ at.0 =
    get_or_from_slice_get (joined_presentation p q).signature.operations (joined_operation p q f) at.0 o at.1 in
    let same = one_profile (operation_image (joined_sort p q) o) at.0 at.2 in
    (ap (λ (u : Operation). u.arguments) is ∙ same.0, ap (λ (u : Operation). u.result) is ∙ same.1)

pub union_maps : (p q : Presentation)
    → IsSignatureMap q.signature (joined_presentation p q).signature (joined_sort p q) (joined_operation p q)
union_maps p q = record {
  sorts = λ s within. sort_within p q s q.signature.sorts refl within;
  operations = λ f o found.
      let at = operation_there p q f o found in
      slice_get_within (joined_presentation p q).signature.operations (joined_operation p q f) at.0 at.1;
  profiles = λ f o found. profile_there p q f o found;
}

-- ---- The signature of the union is well formed where nothing clashes.

-- what a list of images has is the image of a member
pub image_in : {A B : Type 0} (f : A → B) (xs : List A) (y : B) → IsIn (map f xs) y
    → (x : A) × IsIn xs x × (f x ≡ y)
image_in {A = A} {B = B} f xs y at = go (slice_get xs at.0) refl (sym (slice_get-map f xs at.0) ∙ at.1)
  where
    go : (o : Option A) → slice_get xs at.0 ≡ o → option_map f o ≡ Some y → (x : A) × IsIn xs x × (f x ≡ y)
    go None is h = absurd (none-some y h)
    go (Some x) is h = (x, (at.0, is), same_Some _ _ h)

-- the sort of an image is there
coming_result : (p q : Presentation) (o : Operation) → IsWellFormedSignature q.signature → IsIn (coming_operations p q) o
    → IsSort (joined_presentation p q).signature o.result
coming_result p q o fine at =
    let before = image_in (operation_image (joined_sort p q)) q.signature.operations o at in
    subst (λ (u : Operation). IsSort (joined_presentation p q).signature u.result) before.2
    (sort_within p q before.0.result q.signature.sorts refl (fine.results before.1.0 before.0 before.1.1))

coming_argument : (p q : Presentation) (o : Operation) (i s : ℕ) → IsWellFormedSignature q.signature
    → IsIn (coming_operations p q) o → slice_get o.arguments i ≡ Some s → IsSort (joined_presentation p q).signature s
coming_argument p q o i s fine at there =
    let before = image_in (operation_image (joined_sort p q)) q.signature.operations o at in
    let listed : slice_get (map (joined_sort p q) before.0.arguments) i ≡ Some s =
    ap (λ (u : Operation). slice_get u.arguments i) before.2 ∙ there in
    let old = image_in (joined_sort p q) before.0.arguments s (i, listed) in
    subst (λ (n : ℕ). IsSort (joined_presentation p q).signature n) old.2
    (sort_within p q old.0 q.signature.sorts refl (fine.arguments before.1.0 old.1.0 old.0 before.0 before.1.1 old.1.1))

pub union_well_formed : (p q : Presentation) → IsWellFormedSignature p.signature → IsWellFormedSignature q.signature
    → all_differ are_one_sort (joined_presentation p q).signature.sorts ≡ true
    → all_differ are_one_operation (joined_presentation p q).signature.operations ≡ true
    → IsWellFormedSignature (joined_presentation p q).signature
union_well_formed p q one other sorts operations =
    made_well_formed (joined_presentation p q).signature
    (λ f o at.
    elim (unions.no_other_operations p q o (f, at)) [
      | inl first ↦
          larger_sort p.signature (joined_presentation p q).signature o.result (union_is_larger p q) (one.results first.0 o first.1)
      | inr coming ↦ coming_result p q o other coming
    ])
    (λ f i s o at there.
    elim (unions.no_other_operations p q o (f, at)) [
      | inl first ↦
          larger_sort p.signature (joined_presentation p q).signature s (union_is_larger p q) (one.arguments first.0 i s o first.1 there)
      | inr coming ↦ coming_argument p q o i s other coming there
    ])
    sorts operations
