-- A renaming without a fault keeps what is different different.
use Rattle.std.proofs.Common.{◌≡◌, ℕ, zero, suc, ◌<◌, ◌≤◌, Bool, true, false, List, [], ◌∷◌, ◌++◌, inl, inr, map, length, append_assoc, refl, ap, sym, ◌∙◌, subst, arith}
use Rattle.std.specs.Prelude.{Option, None, Some, slice_get, if◌then◌else◌}
use Rattle.std.specs.Option.{option_map}
use Rattle.std.proofs.lemmas.Bool.{cases_lt, eq-eqb, and_from}
use Rattle.std.proofs.lemmas.List.{append-nil, length-append, length-map, map-id}
use Rattle.std.proofs.lemmas.Option.{none-some, same_Some, slice_get_within, slice_get-map, get_or_from_slice_get}
use Rattle.std.proofs.lemmas.Slice.Eq.{bytes_eq-Decides}
use Rattle.std.specs.Str.{bytes_eq}
use Rattle.std.specs.Prelude.{◌&&◌, nat_eq}
use Rattle.lotos_base.proofs.Members.{at_front, at_end, from_front}
use Rattle.lotos_base.specs.Names.{folded}
use Rattle.lotos_base.specs.Signature.{Sort, Operation, IsSort, IsOperation, IsWellFormedSignature}
use Rattle.lotos_base.specs.Twins.{form_eq}
use Rattle.lotos_base.specs.Equation.{Place, Equation, IsEquationOver, IsWellFormedData}
use Rattle.syntax_trees.specs.WrittenItem.{WrittenPair, WrittenPairs}
use Rattle.sort_terms.specs.ReadingOutcome.{one_name}
use Rattle.sort_terms.specs.WellFormedTest.{are_one_sort, are_one_operation}
use Rattle.sort_terms.proofs.NodeLemmas.{eq_forms}
use Rattle.sort_terms.proofs.WellFormedLemmas.{operations_mutual}
use Rattle.type_definitions.specs.Images.{equation_image}
use Rattle.type_definitions.specs.ProfiledImage.{profile_in}
use Rattle.type_definitions.specs.ImageLaws.{IsSignatureMap}
use Rattle.type_definitions.specs.TypeFault.{TypeFault, double_sort, double_operation, first_fault}
use Rattle.type_definitions.specs.Presentation.{Presentation}
use Rattle.type_definitions.specs.Renaming.{pair_for, operation_under, renamed_sort, renamed_operation, renamed_presentation, renaming_fault, clash_at, clash_with, clash_among, renamed_sort_clash, renamed_operation_clash, sort_pairs_fault, operation_pairs_fault}
use Rattle.type_definitions.specs.Flattened.{flattened_data_of}
use Rattle.type_definitions.proofs.RenamingLemmas.{unpaired_sort, unpaired_operation}
use Rattle.type_presentations.proofs.EquationImageLemmas.{image_over, identity_image}
use Rattle.type_flatten.specs.ImagesOfRenamings.{RenamingsAreImages}
use Rattle.type_flatten.proofs.OneToOneLemmas.{AreAlike, one_operation}

-- ---- Faults that are none.

abbrev AreNone : {A B : Type 0} → Option A → Option B → Type 0
AreNone one other = (one ≡ None) × (other ≡ None)

none_first : (one later : Option TypeFault) → first_fault one later ≡ None → AreNone one later
none_first None later h = (refl, h)
none_first (Some f) later h = absurd (none-some f (sym h))

no_clash_at : (kind : Place → List ℕ → TypeFault) (later earlier : Option WrittenPair) → clash_at kind later earlier ≡ None
    → AreNone later earlier
no_clash_at kind None None h = (refl, refl)
no_clash_at kind None (Some pair) h = absurd (none-some (kind pair.place pair.given) (sym h))
no_clash_at kind (Some pair) earlier h = absurd (none-some (kind pair.place pair.given) (sym h))

-- ---- Images that are apart.

-- members without a pair are not the same
abbrev AreApartUnpaired : {A : Type 0} → (A → A → Bool) → (A → Option WrittenPair) → List A → Type 0
AreApartUnpaired {A} same pair_of xs =
    (i j : ℕ) (x y : A) → slice_get xs i ≡ Some x → slice_get xs j ≡ Some y → same x y ≡ true → pair_of x ≡ None
    → pair_of y ≡ None → i ≡ j

none_like : {A : Type 0} (same : A → A → Bool) (pair_of : A → Option WrittenPair) (kind : Place → List ℕ → TypeFault) (ys : List A)
    (x : A) → clash_with same pair_of kind ys x ≡ None
    → ((i : ℕ) (y : A) → slice_get ys i ≡ Some y → same y x ≡ true → pair_of x ≡ None → pair_of y ≡ None → ⊥)
    → (i : ℕ) (y : A) → slice_get ys i ≡ Some y → same y x ≡ true → ⊥
none_like same pair_of kind [] x h apart i y found alike = none-some y found
none_like {A = A} same pair_of kind (z ∷ ys) x h apart i y found alike =
    go (same z x) refl i found h (λ rest j f. none_like same pair_of kind ys x rest (λ k. apart (suc k)) j y f alike)
  where
    go : (b : Bool) → same z x ≡ b → (j : ℕ) → slice_get (z ∷ ys) j ≡ Some y
        → (if b then clash_at kind (pair_of x) (pair_of z) else clash_with same pair_of kind ys x) ≡ None
        → (clash_with same pair_of kind ys x ≡ None → (k : ℕ) → slice_get ys k ≡ Some y → ⊥) → ⊥
    go true is j f none later =
        let pairs = no_clash_at kind (pair_of x) (pair_of z) none in apart 0 z refl is pairs.0 pairs.1
    go false is zero f none later =
        let e : true ≡ false = sym alike ∙ ap (λ (w : A). same w x) (sym (same_Some _ _ f)) ∙ is in cc
    go false is (suc j) f none later = later none j f

none_clash : {A : Type 0} (same : A → A → Bool) (pair_of : A → Option WrittenPair) (kind : Place → List ℕ → TypeFault)
    (earlier xs : List A) → clash_among same pair_of kind earlier xs ≡ None → AreApartUnpaired same pair_of (earlier ++ xs)
    → (i j : ℕ) (x y : A) → slice_get (earlier ++ xs) i ≡ Some x → slice_get (earlier ++ xs) j ≡ Some y → i < j
    → length earlier ≤ j → same x y ≡ true → ⊥
none_clash {A = A} same pair_of kind earlier [] h apart i j x y at there below behind alike =
    let within : j < length (earlier ++ []) = slice_get_within (earlier ++ []) j y there in
    let as_long : length (earlier ++ []) ≡ length earlier = ap (λ (l : List A). length l) (append-nil earlier) in
    absurd (omega (arith, within, as_long, behind))
none_clash {A = A} same pair_of kind earlier (z ∷ zs) h apart i j x y at there below behind alike =
    let parts = none_first (clash_with same pair_of kind earlier z) (clash_among same pair_of kind (earlier ++ z ∷ []) zs) h in
    let joint : (earlier ++ z ∷ []) ++ zs ≡ earlier ++ z ∷ zs = append_assoc earlier (z ∷ []) zs in
    elim (cases_lt (length earlier) j) [
      | inl further ↦
          none_clash same pair_of kind (earlier ++ z ∷ []) zs parts.1
          (subst (λ (ys : List A). AreApartUnpaired same pair_of ys) (sym joint) apart) i j x y
          (ap (λ (ys : List A). slice_get ys i) joint ∙ at) (ap (λ (ys : List A). slice_get ys j) joint ∙ there) below
          (omega (arith, further, length-append earlier (z ∷ []))) alike
      | inr not_further ↦
          (let here : j ≡ length earlier = omega (arith, not_further, behind) in
          let this : z ≡ y =
          same_Some _ _ (sym (at_end earlier z zs) ∙ ap (λ (n : ℕ). slice_get (earlier ++ z ∷ zs) n) (sym here) ∙ there) in
          none_like same pair_of kind earlier z parts.0
          (λ k w found like none other.
          let within : k < length earlier = slice_get_within earlier k w found in
          let e : k ≡ length earlier =
          apart k (length earlier) w z (at_front earlier (z ∷ zs) k w found) (at_end earlier z zs) like other none in
          absurd (omega (arith, within, e)))
          i x (from_front earlier (z ∷ zs) i x (omega (arith, below, here)) at)
          (ap (λ (w : A). same x w) this ∙ alike))
    ]

-- so members whose images are the same are one
pub images_apart : {A : Type 0} (same : A → A → Bool) (pair_of : A → Option WrittenPair) (kind : Place → List ℕ → TypeFault)
    (xs : List A) → clash_among same pair_of kind [] xs ≡ None → ((x y : A) → same x y ≡ true → same y x ≡ true)
    → AreApartUnpaired same pair_of xs → (i j : ℕ) (x y : A) → slice_get xs i ≡ Some x → slice_get xs j ≡ Some y → same x y ≡ true
    → i ≡ j
images_apart same pair_of kind xs h mutual_ apart i j x y at there alike =
    elim (cases_lt i j) [
      | inl below ↦ absurd (none_clash same pair_of kind [] xs h apart i j x y at there below (omega arith) alike)
      | inr above ↦
          elim (cases_lt j i) [
            | inl over ↦
                absurd (none_clash same pair_of kind [] xs h apart j i y x there at over (omega arith) (mutual_ x y alike))
            | inr as_much ↦ omega (arith, above, as_much)
          ]
    ]

-- ---- Sorts.

alike_names : (a b : List ℕ) → folded a ≡ folded b → one_name a b ≡ true
alike_names a b e = (bytes_eq-Decides (folded a) (folded b)).1 e

names_alike : (a b : List ℕ) → one_name a b ≡ true → folded a ≡ folded b
names_alike a b h = (bytes_eq-Decides (folded a) (folded b)).0 h

sorts_clash_not : (base : Presentation) (name : List ℕ) (pairs : WrittenPairs) → renaming_fault base name pairs ≡ None
    → AreNone (renamed_sort_clash base name pairs) (renamed_operation_clash base name pairs)
sorts_clash_not base name pairs h =
    let clashes : Option TypeFault = first_fault (renamed_sort_clash base name pairs) (renamed_operation_clash base name pairs) in
    let later : Option TypeFault = first_fault (operation_pairs_fault base.signature [] pairs.operation_pairs) clashes in
    none_first (renamed_sort_clash base name pairs) (renamed_operation_clash base name pairs)
    (none_first (operation_pairs_fault base.signature [] pairs.operation_pairs) clashes
    (none_first (sort_pairs_fault base.signature [] pairs.sort_pairs) later h).1).1

sorts_apart : (base : Presentation) (name : List ℕ) (pairs : WrittenPairs) → IsWellFormedSignature base.signature
    → renaming_fault base name pairs ≡ None → (i j : ℕ) (s t : Sort) → slice_get base.signature.sorts i ≡ Some s
    → slice_get base.signature.sorts j ≡ Some t
    → are_one_sort (renamed_sort name pairs s) (renamed_sort name pairs t) ≡ true → i ≡ j
sorts_apart base name pairs fine none i j s t at there alike =
    images_apart (λ (one : Sort) (other : Sort). are_one_sort (renamed_sort name pairs one) (renamed_sort name pairs other))
    (λ (sort : Sort). pair_for pairs.sort_pairs sort.name) double_sort base.signature.sorts (sorts_clash_not base name pairs none).0
    (λ x y h.
    alike_names (renamed_sort name pairs y).name (renamed_sort name pairs x).name
    (sym (names_alike (renamed_sort name pairs x).name (renamed_sort name pairs y).name h)))
    (λ k l x y found also h one other.
    fine.sort_names k l x y found also
    (ap (λ (u : Sort). folded u.name) (sym (unpaired_sort name pairs x one))
    ∙ names_alike (renamed_sort name pairs x).name (renamed_sort name pairs y).name h
    ∙ ap (λ (u : Sort). folded u.name) (unpaired_sort name pairs y other)))
    i j s t at there alike

-- ---- Operations.

alike_operations : (o p : Operation) → AreAlike o p → are_one_operation o p ≡ true
alike_operations o p h =
    and_from (one_name o.name p.name && form_eq o.form p.form) (bytes_eq o.arguments p.arguments && nat_eq o.result p.result)
    (and_from (one_name o.name p.name) (form_eq o.form p.form) (alike_names o.name p.name h.name) (eq_forms o.form p.form h.form))
    (and_from (bytes_eq o.arguments p.arguments) (nat_eq o.result p.result) ((bytes_eq-Decides o.arguments p.arguments).1 h.arguments)
    (eq-eqb o.result p.result h.result))

operations_apart : (base : Presentation) (name : List ℕ) (pairs : WrittenPairs) → IsWellFormedSignature base.signature
    → renaming_fault base name pairs ≡ None → (f g : ℕ) (o p : Operation) → IsOperation base.signature f o
    → IsOperation base.signature g p
    → are_one_operation (renamed_operation name pairs o) (renamed_operation name pairs p) ≡ true → f ≡ g
operations_apart base name pairs fine none f g o p at there alike =
    images_apart
    (λ (one : Operation) (other : Operation).
    are_one_operation (renamed_operation name pairs one) (renamed_operation name pairs other))
    (λ (operation : Operation). pair_for pairs.operation_pairs operation.name) double_operation base.signature.operations
    (sorts_clash_not base name pairs none).1
    (λ x y h. operations_mutual (renamed_operation name pairs x) (renamed_operation name pairs y) h)
    (λ k l x y found also h one other.
    let whole : AreAlike x y =
    subst (λ (u : Operation). AreAlike x u) (unpaired_operation name pairs y other)
    (subst (λ (u : Operation). AreAlike u (renamed_operation name pairs y)) (unpaired_operation name pairs x one)
    (one_operation (renamed_operation name pairs x) (renamed_operation name pairs y) h)) in
    fine.profiles k l x y found also whole.name whole.form whole.arguments whole.result)
    f g o p at there alike

-- ---- The data.

-- the member of which an image is made
abbrev HasBefore : {A B : Type 0} → (A → B) → List A → ℕ → B → Type 0
HasBefore {A} {B} f xs i y = (x : A) × (slice_get xs i ≡ Some x) × (f x ≡ y)

before : {A B : Type 0} (f : A → B) (xs : List A) (i : ℕ) (y : B) → slice_get (map f xs) i ≡ Some y → HasBefore f xs i y
before {A = A} {B = B} f xs i y found = go (slice_get xs i) refl (sym (slice_get-map f xs i) ∙ found)
  where
    go : (o : Option A) → slice_get xs i ≡ o → option_map f o ≡ Some y → HasBefore f xs i y
    go None is h = absurd (none-some y h)
    go (Some x) is h = (x, is, same_Some _ _ h)

-- profiles stay
abbrev KeepsProfile : Operation → Operation → Type 0
KeepsProfile old new = (new.arguments ≡ old.arguments) × (new.result ≡ old.result)

profile_stays : (name : List ℕ) (pair : Option WrittenPair) (o : Operation) → KeepsProfile o (operation_under name pair o)
profile_stays name None o = (refl, refl)
profile_stays name (Some pair) o = (refl, refl)

sort_stays : (base : Presentation) (name : List ℕ) (pairs : WrittenPairs) (n : ℕ) → IsSort base.signature n
    → IsSort (renamed_presentation base name pairs).signature n
sort_stays base name pairs n known =
    let as_many : length (renamed_presentation base name pairs).signature.sorts ≡ length base.signature.sorts =
    length-map base.signature.sorts (renamed_sort name pairs) in
    omega (arith, known, as_many)

operation_there : (base : Presentation) (name : List ℕ) (pairs : WrittenPairs) (f : ℕ) (o : Operation) → IsOperation base.signature f o
    → IsOperation (renamed_presentation base name pairs).signature f (renamed_operation name pairs o)
operation_there base name pairs f o found =
    slice_get-map (renamed_operation name pairs) base.signature.operations f
    ∙ ap (λ (x : Option Operation). option_map (renamed_operation name pairs) x) found

numbers_stay : (base : Presentation) (name : List ℕ) (pairs : WrittenPairs)
    → IsSignatureMap base.signature (renamed_presentation base name pairs).signature (λ n. n) (λ n. n)
numbers_stay base name pairs = record {
  sorts = λ s known. sort_stays base name pairs s known;
  operations = λ f o found.
      slice_get_within (renamed_presentation base name pairs).signature.operations f (renamed_operation name pairs o)
      (operation_there base name pairs f o found);
  profiles = λ f o found.
      let is : profile_in (renamed_presentation base name pairs).signature.operations f o ≡ renamed_operation name pairs o =
      get_or_from_slice_get (renamed_presentation base name pairs).signature.operations f (renamed_operation name pairs o) o
      (operation_there base name pairs f o found) in
      let kept = profile_stays name (pair_for pairs.operation_pairs o.name) o in (
        ap (λ (u : Operation). u.arguments) is ∙ kept.0 ∙ sym (map-id o.arguments),
        ap (λ (u : Operation). u.result) is ∙ kept.1,
      );
}

signature_fine : (base : Presentation) (name : List ℕ) (pairs : WrittenPairs) → IsWellFormedSignature base.signature
    → renaming_fault base name pairs ≡ None → IsWellFormedSignature (renamed_presentation base name pairs).signature
signature_fine base name pairs fine none = record {
  results = λ f o at.
      let old = before (renamed_operation name pairs) base.signature.operations f o at in
      let kept = profile_stays name (pair_for pairs.operation_pairs old.0.name) old.0 in
      subst (λ (n : ℕ). IsSort (renamed_presentation base name pairs).signature n)
      (sym kept.1 ∙ ap (λ (u : Operation). u.result) old.2)
      (sort_stays base name pairs old.0.result (fine.results f old.0 old.1));
  arguments = λ f i s o at there.
      let old = before (renamed_operation name pairs) base.signature.operations f o at in
      let kept = profile_stays name (pair_for pairs.operation_pairs old.0.name) old.0 in
      sort_stays base name pairs s
      (fine.arguments f i s old.0 old.1
      (ap (λ (xs : List ℕ). slice_get xs i) (sym kept.0 ∙ ap (λ (u : Operation). u.arguments) old.2) ∙ there));
  sort_names = λ i j s t at there alike.
      let one = before (renamed_sort name pairs) base.signature.sorts i s at in
      let other = before (renamed_sort name pairs) base.signature.sorts j t there in
      sorts_apart base name pairs fine none i j one.0 other.0 one.1 other.1
      (alike_names (renamed_sort name pairs one.0).name (renamed_sort name pairs other.0).name
      (ap (λ (u : Sort). folded u.name) one.2 ∙ alike ∙ sym (ap (λ (u : Sort). folded u.name) other.2)));
  profiles = λ f g o p at there name_alike form arguments result.
      let one = before (renamed_operation name pairs) base.signature.operations f o at in
      let other = before (renamed_operation name pairs) base.signature.operations g p there in
      let alike : AreAlike o p = record { name = name_alike; form = form; arguments = arguments; result = result } in
      let images : AreAlike (renamed_operation name pairs one.0) (renamed_operation name pairs other.0) =
      subst (λ (u : Operation). AreAlike (renamed_operation name pairs one.0) u) (sym other.2)
      (subst (λ (u : Operation). AreAlike u p) (sym one.2) alike) in
      operations_apart base name pairs fine none f g one.0 other.0 one.1 other.1
      (alike_operations (renamed_operation name pairs one.0) (renamed_operation name pairs other.0) images);
}

data_fine : (base : Presentation) (name : List ℕ) (pairs : WrittenPairs) → IsWellFormedData (flattened_data_of base)
    → renaming_fault base name pairs ≡ None → IsWellFormedData (flattened_data_of (renamed_presentation base name pairs))
data_fine base name pairs fine none = record {
  signature = signature_fine base name pairs fine.signature none;
  equations = λ e at.
      subst (λ (x : Equation). IsEquationOver (renamed_presentation base name pairs).signature x) (identity_image e)
      (image_over base.signature (renamed_presentation base name pairs).signature (λ n. n) (λ n. n) e (numbers_stay base name pairs)
      (fine.equations e at));
}

same_equations : (es : List Equation) → es ≡ map (equation_image (λ n. n) (λ n. n)) es
same_equations [] = refl
same_equations (e ∷ es) =
    ap (λ (x : Equation). x ∷ es) (sym (identity_image e))
    ∙ ap (λ (xs : List Equation). equation_image (λ n. n) (λ n. n) e ∷ xs) (same_equations es)

pub renamings : RenamingsAreImages
renamings = record {
  sorts = λ base name pairs. refl;
  operations = λ base name pairs. refl;
  equations = λ base name pairs. same_equations base.equations;
  sorts_differ = sorts_apart;
  operations_differ = operations_apart;
  well_formed = data_fine;
}
