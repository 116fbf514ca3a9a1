-- The test of well-formed signatures is true exactly where the signature is well formed.
use Rattle.std.proofs.Common.{arith, ◌≡◌, ℕ, zero, suc, Bool, true, false, ◌&&◌, not, List, [], ◌∷◌, length, refl, ap, sym, ◌∙◌, ◌++◌}
use Rattle.std.specs.Prelude.{Some, slice_get, nat_eq, nat_lt, ◌||◌}
use Rattle.std.specs.List.{list_all, list_any}
use Rattle.std.specs.Str.{bytes_eq}
use Rattle.std.proofs.lemmas.Bool.{eqb-true, eq-eqb, ltb-true, lt-ltb, and_parts, and_from, not-true, or_parts}
use Rattle.std.proofs.lemmas.Option.{none-some, same_Some}
use Rattle.std.proofs.lemmas.Map.Keys.{any_passes_from_place}
use Rattle.std.proofs.lemmas.List.Folds.{list_any-append}
use Rattle.lotos_base.proofs.Truth.{not_both, true_unless}
use Rattle.lotos_base.proofs.Tests.{list_all-at, list_all-from_each, list_any-at}
use Rattle.lotos_base.proofs.Numbers.{suc-injective}
use Rattle.lotos_base.proofs.Bytes.{same_bytes, bytes_same}
use Rattle.lotos_base.specs.Names.{folded}
use Rattle.lotos_base.specs.Signature.{Signature, Sort, Operation, IsWellFormedSignature}
use Rattle.lotos_base.specs.Twins.{form_eq}
use Rattle.sort_terms.specs.Operations.{signature_listing}
use Rattle.sort_terms.specs.declared.operations.Sort.{Sort as CodeSort}
use Rattle.sort_terms.specs.declared.operations.Op.{Op}
use Rattle.sort_terms.specs.ReadingOutcome.{one_name}
use Rattle.sort_terms.specs.WellFormedTest.{all_below, has_known_sorts, are_one_sort, are_one_operation, all_differ, is_well_formed_signature}
use Rattle.sort_terms.proofs.NodeLemmas.{forms_eq, eq_forms}

-- ---- Members that differ

differ_apart : {A : Type 0} (same : A → A → Bool) → ((x y : A) → same x y ≡ true → same y x ≡ true) → (xs : List A) → all_differ same xs
    ≡ true
    → (i j : ℕ) (x y : A) → slice_get xs i ≡ Some x → slice_get xs j ≡ Some y → same x y ≡ true → i ≡ j
differ_apart same mutual_ [] h i j x y at there alike = absurd (none-some x at)
differ_apart same mutual_ (z ∷ zs) h zero zero x y at there alike = refl
differ_apart same mutual_ (z ∷ zs) h zero (suc j) x y at there alike =
    let parts = and_parts (not (list_any (same z) zs)) (all_differ same zs) h in
    absurd (not_both (list_any (same z) zs) parts.0
    (any_passes_from_place (same z) zs j y there (ap (λ v. same v y) (same_Some _ _ at) ∙ alike)))
differ_apart same mutual_ (z ∷ zs) h (suc i) zero x y at there alike =
    let parts = and_parts (not (list_any (same z) zs)) (all_differ same zs) h in
    absurd (not_both (list_any (same z) zs) parts.0
    (any_passes_from_place (same z) zs i x at (ap (λ v. same v x) (same_Some _ _ there) ∙ mutual_ x y alike)))
differ_apart same mutual_ (z ∷ zs) h (suc i) (suc j) x y at there alike =
    let parts = and_parts (not (list_any (same z) zs)) (all_differ same zs) h in
    ap (λ (n : ℕ). suc n) (differ_apart same mutual_ zs parts.1 i j x y at there alike)

apart_differ : {A : Type 0} (same : A → A → Bool) (xs : List A)
    → ((i j : ℕ) (x y : A) → slice_get xs i ≡ Some x → slice_get xs j ≡ Some y → same x y ≡ true → i ≡ j) → all_differ same xs ≡ true
apart_differ same [] apart = refl
apart_differ same (x ∷ xs) apart =
    and_from (not (list_any (same x) xs)) (all_differ same xs)
    (true_unless (list_any (same x) xs) (λ h.
    let member = list_any-at (same x) xs h in
    let clash : 0 ≡ suc member.0 = apart 0 (suc member.0) x member.1 refl member.2 member.3 in
    omega (arith, clash)))
    (apart_differ same xs (λ i j y z at there alike. suc-injective i j (apart (suc i) (suc j) y z at there alike)))

-- ---- Sorts and operations

sorts_mutual : (x y : Sort) → are_one_sort x y ≡ true → are_one_sort y x ≡ true
sorts_mutual x y h = bytes_same (folded y.name) (folded x.name) (sym (same_bytes (folded x.name) (folded y.name) h))

-- the four parts of being one operation
abbrev InParts : Operation → Operation → Type 0
InParts x y =
    (folded x.name ≡ folded y.name) × (x.form ≡ y.form) × (x.arguments ≡ y.arguments) × (x.result ≡ y.result)

in_parts : (x y : Operation) → are_one_operation x y ≡ true → InParts x y
in_parts x y h =
    let halves = and_parts (one_name x.name y.name && form_eq x.form y.form)
    (bytes_eq x.arguments y.arguments && nat_eq x.result y.result) h in
    let first = and_parts (one_name x.name y.name) (form_eq x.form y.form) halves.0 in
    let second = and_parts (bytes_eq x.arguments y.arguments) (nat_eq x.result y.result) halves.1 in (
      same_bytes (folded x.name) (folded y.name) first.0,
      forms_eq x.form y.form first.1,
      same_bytes x.arguments y.arguments second.0,
      eqb-true x.result y.result second.1,
    )

of_parts : (x y : Operation) → InParts x y → are_one_operation x y ≡ true
of_parts x y h =
    and_from (one_name x.name y.name && form_eq x.form y.form) (bytes_eq x.arguments y.arguments && nat_eq x.result y.result)
    (and_from (one_name x.name y.name) (form_eq x.form y.form) (bytes_same (folded x.name) (folded y.name) h.0)
    (eq_forms x.form y.form h.1))
    (and_from (bytes_eq x.arguments y.arguments) (nat_eq x.result y.result) (bytes_same x.arguments y.arguments h.2)
    (eq-eqb x.result y.result h.3))

pub operations_mutual : (x y : Operation) → are_one_operation x y ≡ true → are_one_operation y x ≡ true
operations_mutual x y h =
    let parts = in_parts x y h in
    of_parts y x (sym parts.0, sym parts.1, sym parts.2, sym parts.3)

pub well_formed_test : (signature : Signature) → is_well_formed_signature signature ≡ true → IsWellFormedSignature signature
well_formed_test signature h =
    let known = and_parts (list_all (has_known_sorts (length signature.sorts)) signature.operations)
    (all_differ are_one_sort signature.sorts && all_differ are_one_operation signature.operations) h in
    let apart = and_parts (all_differ are_one_sort signature.sorts) (all_differ are_one_operation signature.operations) known.1 in
    record {
      results = λ f o at.
          ltb-true o.result (length signature.sorts)
          (and_parts (nat_lt o.result (length signature.sorts)) (all_below (length signature.sorts) o.arguments)
          (list_all-at (has_known_sorts (length signature.sorts)) signature.operations f o known.0 at)).0;
      arguments = λ f i s o at there.
          ltb-true s (length signature.sorts)
          (list_all-at (λ (n : ℕ). nat_lt n (length signature.sorts)) o.arguments i s
          (and_parts (nat_lt o.result (length signature.sorts)) (all_below (length signature.sorts) o.arguments)
          (list_all-at (has_known_sorts (length signature.sorts)) signature.operations f o known.0 at)).1 there);
      sort_names = λ i j s t at there alike.
          differ_apart are_one_sort sorts_mutual signature.sorts apart.0 i j s t at there
          (bytes_same (folded s.name) (folded t.name) alike);
      profiles = λ f g o p at there name form arguments result.
          differ_apart are_one_operation operations_mutual signature.operations apart.1 f g o p at there
          (of_parts o p (name, form, arguments, result));
    }

pub test_well_formed : (signature : Signature) → IsWellFormedSignature signature → is_well_formed_signature signature ≡ true
test_well_formed signature fine =
    and_from (list_all (has_known_sorts (length signature.sorts)) signature.operations)
    (all_differ are_one_sort signature.sorts && all_differ are_one_operation signature.operations)
    (list_all-from_each (has_known_sorts (length signature.sorts)) signature.operations (λ f o at.
    and_from (nat_lt o.result (length signature.sorts)) (all_below (length signature.sorts) o.arguments)
    (lt-ltb o.result (length signature.sorts) (fine.results f o at))
    (list_all-from_each (λ (n : ℕ). nat_lt n (length signature.sorts)) o.arguments (λ i s there.
    lt-ltb s (length signature.sorts) (fine.arguments f i s o at there)))))
    (and_from (all_differ are_one_sort signature.sorts) (all_differ are_one_operation signature.operations)
    (apart_differ are_one_sort signature.sorts (λ i j s t at there alike.
    fine.sort_names i j s t at there (same_bytes (folded s.name) (folded t.name) alike)))
    (apart_differ are_one_operation signature.operations (λ f g o p at there alike.
    let parts = in_parts o p alike in
    fine.profiles f g o p at there parts.0 parts.1 parts.2 parts.3)))

-- lists that are those that were tested
pub tested : (sorts one : List CodeSort) (ops other : List Op) (r : Bool) → one ≡ sorts → other ≡ ops
    → r ≡ is_well_formed_signature (signature_listing one other) → is_well_formed_signature (signature_listing sorts ops) ≡ r
tested sorts one ops other r same alike is =
    sym (is ∙ ap (λ (xs : List CodeSort). is_well_formed_signature (signature_listing xs other)) same
    ∙ ap (λ (ys : List Op). is_well_formed_signature (signature_listing sorts ys)) alike)

pub not_well_formed : (signature : Signature) → is_well_formed_signature signature ≡ false → ¬ IsWellFormedSignature signature
not_well_formed signature test fine = let both : true ≡ false = sym (test_well_formed signature fine) ∙ test in cc

pub earlier_differ : {A : Type 0} (same : A → A → Bool) → ((x y : A) → same x y ≡ same y x) → (kept : List A) (x : A) (xs : List A)
    → all_differ same (kept ++ x ∷ xs) ≡ true → list_any (same x) kept ≡ false
earlier_differ same turned [] x xs h = refl
earlier_differ same turned (y ∷ ys) x xs h =
    let parts = and_parts (not (list_any (same y) (ys ++ x ∷ xs))) (all_differ same (ys ++ x ∷ xs)) h in
    let none : list_any (same y) (ys ++ x ∷ xs) ≡ false = not-true (list_any (same y) (ys ++ x ∷ xs)) parts.0 in
    let behind =
    or_parts (list_any (same y) ys) (list_any (same y) (x ∷ xs)) (sym (list_any-append (same y) ys (x ∷ xs)) ∙ none) in
    let here : same x y ≡ false = turned x y ∙ (or_parts (same y x) (list_any (same y) xs) behind.1).0 in
    ap (λ (b : Bool). b || list_any (same x) ys) here ∙ earlier_differ same turned ys x xs parts.1
