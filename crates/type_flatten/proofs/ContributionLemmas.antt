-- Types without formal marks, and the union of one alone.
use Rattle.std.proofs.Common.{◌≡◌, ℕ, zero, suc, ◌<◌, Bool, true, false, List, [], ◌∷◌, ◌++◌, map, length, append_assoc, refl, ap, sym, ◌∙◌, subst, arith}
use Rattle.std.specs.Prelude.{Some, slice_get, if◌then◌else◌}
use Rattle.std.specs.List.{list_any}
use Rattle.std.proofs.lemmas.List.{append-nil}
use Rattle.std.proofs.lemmas.Option.{none-some, same_Some, slice_get_within}
use Rattle.lotos_base.proofs.Members.{at_end, at_front, map_same, member_at}
use Rattle.lotos_base.proofs.Tests.{list_any-at}
use Rattle.lotos_base.specs.Signature.{Signature, Sort, Operation, IsSort, IsOperation, IsWellFormedSignature}
use Rattle.type_definitions.specs.Images.{operation_image}
use Rattle.type_definitions.specs.Presentation.{Presentation, nothing, with_new, is_same_sort, is_same_operation}
use Rattle.type_definitions.specs.Union.{Mentioned, union_of, joined_sort, joined_sorts, joined_operations, coming_operations}
use Rattle.type_definitions.specs.UnionLaws.{IsIn}
use Rattle.type_definitions.specs.Actualisation.{is_formal}
use Rattle.type_definitions.specs.Flattened.{without_formals}
use Rattle.type_flatten.specs.Contributions.{ContributionsAreExact}
use Rattle.type_flatten.proofs.ContainmentLemmas.{second_lies}
use Rattle.type_flatten.proofs.OneToOneLemmas.{sort_name, same_operation}

-- ---- Types without formal marks.

is_listed : (all : List Mentioned) (i : ℕ) (m : Mentioned) → slice_get all i ≡ Some m → is_formal m.presentation ≡ false
    → IsIn (without_formals all) m
is_listed [] i m found plain = absurd (none-some m found)
is_listed (t ∷ ts) zero m found plain =
    let this : t ≡ m = same_Some _ _ found in
    let is : is_formal t.presentation ≡ false = ap (λ (x : Mentioned). is_formal x.presentation) this ∙ plain in
    subst (λ (b : Bool). IsIn (if b then without_formals ts else t ∷ without_formals ts) m) (sym is) (0, found)
is_listed (t ∷ ts) (suc i) m found plain = go (is_formal t.presentation) (is_listed ts i m found plain)
  where
    go : (b : Bool) → IsIn (without_formals ts) m → IsIn (if b then without_formals ts else t ∷ without_formals ts) m
    go true at = at
    go false at = (suc at.0, at.1)

-- a member without formal marks
abbrev IsPlainIn : List Mentioned → Mentioned → Type 0
IsPlainIn all m = IsIn all m × (is_formal m.presentation ≡ false)

later_plain : (t m : Mentioned) (ts : List Mentioned) → IsPlainIn ts m → IsPlainIn (t ∷ ts) m
later_plain t m ts at = ((suc at.0.0, at.0.1), at.1)

is_plain : (all : List Mentioned) (i : ℕ) (m : Mentioned) → slice_get (without_formals all) i ≡ Some m → IsPlainIn all m
is_plain [] i m found = absurd (none-some m found)
is_plain (t ∷ ts) i m found = go (is_formal t.presentation) refl i found (λ j f. is_plain ts j m f)
  where
    go : (b : Bool) → is_formal t.presentation ≡ b → (j : ℕ)
        → slice_get (if b then without_formals ts else t ∷ without_formals ts) j ≡ Some m
        → ((k : ℕ) → slice_get (without_formals ts) k ≡ Some m → IsPlainIn ts m) → IsPlainIn (t ∷ ts) m
    go true is j f rest = later_plain t m ts (rest j f)
    go false is zero f rest =
        ((0, f), ap (λ (x : Mentioned). is_formal x.presentation) (sym (same_Some _ _ f)) ∙ is)
    go false is (suc j) f rest = later_plain t m ts (rest j f)

-- ---- Lists that keep first appearances, of members that are apart.

-- no two members are the same in this sense
abbrev AreApart : {A : Type 0} → (A → A → Bool) → List A → Type 0
AreApart {A} same xs =
    (i j : ℕ) (x y : A) → slice_get xs i ≡ Some x → slice_get xs j ≡ Some y → same x y ≡ true → i ≡ j

none_before : {A : Type 0} (same : A → A → Bool) (kept : List A) (z : A) (xs : List A) (b : Bool) → AreApart same (kept ++ z ∷ xs)
    → list_any (same z) kept ≡ b → b ≡ false
none_before same kept z xs false apart h = refl
none_before same kept z xs true apart h =
    let at = list_any-at (same z) kept h in
    let e : length kept ≡ at.0 = apart (length kept) at.0 z at.1 (at_end kept z xs) (at_front kept (z ∷ xs) at.0 at.1 at.2) at.3 in
    let within : at.0 < length kept = slice_get_within kept at.0 at.1 at.2 in absurd (omega (arith, e, within))

all_new : {A : Type 0} (same : A → A → Bool) (kept xs : List A) → AreApart same (kept ++ xs) → with_new same kept xs ≡ kept ++ xs
all_new same kept [] apart = sym (append-nil kept)
all_new {A = A} same kept (z ∷ xs) apart =
    let joint : (kept ++ z ∷ []) ++ xs ≡ kept ++ z ∷ xs = append_assoc kept (z ∷ []) xs in
    ap (λ (b : Bool). with_new same (if b then kept else kept ++ z ∷ []) xs)
    (none_before same kept z xs (list_any (same z) kept) apart refl)
    ∙ all_new same (kept ++ z ∷ []) xs (subst (λ (ys : List A). AreApart same ys) (sym joint) apart) ∙ joint

-- ---- One alone.

sorts_alone : (q : Presentation) → IsWellFormedSignature q.signature → joined_sorts nothing q ≡ q.signature.sorts
sorts_alone q fine =
    all_new is_same_sort [] q.signature.sorts (λ i j s t at there h. fine.sort_names i j s t at there (sort_name s t h))

number_stays : (q : Presentation) → IsWellFormedSignature q.signature → (n : ℕ) → IsSort q.signature n → joined_sort nothing q n ≡ n
number_stays q fine n known =
    let s = member_at q.signature.sorts n known in
    let at = (second_lies nothing q).sorts n s.0 s.1 in
    let there : slice_get q.signature.sorts (joined_sort nothing q n) ≡ Some at.0 =
    ap (λ (ss : List Sort). slice_get ss (joined_sort nothing q n)) (sym (sorts_alone q fine)) ∙ at.1 in
    sym (fine.sort_names n (joined_sort nothing q n) s.0 at.0 s.1 there (sort_name s.0 at.0 at.2))

abbrev over : Operation → List ℕ → ℕ → Operation
over o arguments result =
    record { name = o.name; form = o.form; arguments = arguments; result = result; origin = o.origin }

operation_stays : (q : Presentation) → IsWellFormedSignature q.signature → (f : ℕ) (o : Operation) → IsOperation q.signature f o
    → operation_image (joined_sort nothing q) o ≡ o
operation_stays q fine f o found =
    let to : ℕ → ℕ = joined_sort nothing q in
    let arguments : map to o.arguments ≡ o.arguments =
    map_same to o.arguments (λ i s there. number_stays q fine s (fine.arguments f i s o found there)) in
    ap (λ (xs : List ℕ). over o xs (to o.result)) arguments
    ∙ ap (λ (r : ℕ). over o o.arguments r) (number_stays q fine o.result (fine.results f o found))

operations_alone : (q : Presentation) → IsWellFormedSignature q.signature → joined_operations nothing q ≡ q.signature.operations
operations_alone q fine =
    let images : coming_operations nothing q ≡ q.signature.operations =
    map_same (operation_image (joined_sort nothing q)) q.signature.operations (operation_stays q fine) in
    ap (λ (os : List Operation). with_new is_same_operation [] os) images
    ∙ all_new is_same_operation [] q.signature.operations (λ f g o p at there h.
    let alike = same_operation o p h in fine.profiles f g o p at there alike.name alike.form alike.arguments alike.result)

abbrev listing : List Sort → List Operation → Signature
listing sorts operations = record { sorts = sorts; operations = operations }

one_alone : (m : Mentioned) → IsWellFormedSignature m.presentation.signature → (union_of (m ∷ [])).signature ≡ m.presentation.signature
one_alone m fine =
    let q : Presentation = m.presentation in
    ap (λ (ss : List Sort). listing ss (joined_operations nothing q)) (sorts_alone q fine)
    ∙ ap (λ (os : List Operation). listing q.signature.sorts os) (operations_alone q fine)

pub contributions : ContributionsAreExact
contributions = record {
  listed = λ all m at plain. is_listed all at.0 m at.1 plain;
  no_other = λ all m at. is_plain all at.0 m at.1;
  alone = one_alone;
}
