-- What is different in a presentation stays so in a union.
use Rattle.std.proofs.Common.{◌≡◌, ℕ, zero, suc, ◌<◌, true, List, [], ◌∷◌, map, length, refl, ap, sym, ◌∙◌, subst, arith}
use Rattle.std.specs.Prelude.{Some, slice_get, ◌&&◌, nat_eq}
use Rattle.std.specs.Str.{bytes_eq}
use Rattle.std.proofs.lemmas.Bool.{eqb-true, and_parts}
use Rattle.std.proofs.lemmas.Option.{same_Some}
use Rattle.std.proofs.lemmas.Slice.Eq.{bytes_eq-Decides}
use Rattle.lotos_base.specs.Names.{folded}
use Rattle.lotos_base.specs.Signature.{Sort, Operation, IsSort, IsOperation, IsWellFormedSignature}
use Rattle.lotos_base.specs.Twins.{form_eq}
use Rattle.lotos_base.proofs.Members.{member_at}
use Rattle.sort_terms.specs.ReadingOutcome.{one_name}
use Rattle.sort_terms.specs.WellFormedTest.{are_one_sort, are_one_operation}
use Rattle.sort_terms.proofs.NodeLemmas.{forms_eq}
use Rattle.type_definitions.specs.Images.{operation_image}
use Rattle.type_definitions.specs.Presentation.{Presentation, is_same_sort, is_same_operation}
use Rattle.type_definitions.specs.Union.{joined_presentation, joined_sort, joined_operation}
use Rattle.type_flatten.specs.Containment.{IsOneToOne}
use Rattle.type_flatten.proofs.ContainmentLemmas.{second_lies}

-- ---- What is one.

pub sort_name : (s t : Sort) → is_same_sort s t ≡ true → folded s.name ≡ folded t.name
sort_name s t h =
    (bytes_eq-Decides (folded s.name) (folded t.name)).0 (and_parts (are_one_sort s t) (one_name s.origin t.origin) h).0

-- name, form and profile
pub record AreAlike (o p : Operation) : Type 0 where
  pub name : folded o.name ≡ folded p.name
  pub form : o.form ≡ p.form
  pub arguments : o.arguments ≡ p.arguments
  pub result : o.result ≡ p.result

pub one_operation : (o p : Operation) → are_one_operation o p ≡ true → AreAlike o p
one_operation o p h =
    let halves = and_parts (one_name o.name p.name && form_eq o.form p.form)
    (bytes_eq o.arguments p.arguments && nat_eq o.result p.result) h in
    let first = and_parts (one_name o.name p.name) (form_eq o.form p.form) halves.0 in
    let second = and_parts (bytes_eq o.arguments p.arguments) (nat_eq o.result p.result) halves.1 in record {
      name = (bytes_eq-Decides (folded o.name) (folded p.name)).0 first.0;
      form = forms_eq o.form p.form first.1;
      arguments = (bytes_eq-Decides o.arguments p.arguments).0 second.0;
      result = eqb-true o.result p.result second.1;
    }

pub same_operation : (o p : Operation) → is_same_operation o p ≡ true → AreAlike o p
same_operation o p h = one_operation o p (and_parts (are_one_operation o p) (one_name o.origin p.origin) h).0

-- two that are like a third one
both_alike : (o p u : Operation) → AreAlike o u → AreAlike p u → AreAlike o p
both_alike o p u one other = record {
  name = one.name ∙ sym other.name;
  form = one.form ∙ sym other.form;
  arguments = one.arguments ∙ sym other.arguments;
  result = one.result ∙ sym other.result;
}

-- ---- Lists of numbers.

abbrev head_or : List ℕ → ℕ
head_or [] = 0
head_or (x ∷ xs) = x

abbrev rest_of : List ℕ → List ℕ
rest_of [] = []
rest_of (x ∷ xs) = xs

pub same_before : (f : ℕ → ℕ) (known : ℕ → Type 0) → ((s t : ℕ) → known s → known t → f s ≡ f t → s ≡ t) → (xs ys : List ℕ)
    → ((i s : ℕ) → slice_get xs i ≡ Some s → known s) → ((i s : ℕ) → slice_get ys i ≡ Some s → known s)
    → map f xs ≡ map f ys → xs ≡ ys
same_before f known apart [] [] these those same = refl
same_before f known apart [] (y ∷ ys) these those same =
    let e : length (map f []) ≡ length (map f (y ∷ ys)) = ap (λ (l : List ℕ). length l) same in absurd (omega (arith, e))
same_before f known apart (x ∷ xs) [] these those same =
    let e : length (map f (x ∷ xs)) ≡ length (map f []) = ap (λ (l : List ℕ). length l) same in absurd (omega (arith, e))
same_before f known apart (x ∷ xs) (y ∷ ys) these those same =
    let head : x ≡ y = apart x y (these 0 x refl) (those 0 y refl) (ap (λ (l : List ℕ). head_or l) same) in
    let rest : xs ≡ ys = same_before f known apart xs ys (λ i. these (suc i)) (λ i. those (suc i)) (ap (λ (l : List ℕ). rest_of l) same) in
    ap (λ (n : ℕ). n ∷ xs) head ∙ ap (λ (l : List ℕ). y ∷ l) rest

-- ---- Unions.

sorts_apart : (p q : Presentation) → IsWellFormedSignature q.signature → (s t : ℕ) → IsSort q.signature s → IsSort q.signature t
    → joined_sort p q s ≡ joined_sort p q t → s ≡ t
sorts_apart p q fine s t known other same =
    let x = member_at q.signature.sorts s known in
    let y = member_at q.signature.sorts t other in
    let one = (second_lies p q).sorts s x.0 x.1 in
    let two = (second_lies p q).sorts t y.0 y.1 in
    let alike : one.0 ≡ two.0 =
    same_Some _ _ (sym one.1 ∙ ap (λ (n : ℕ). slice_get (joined_presentation p q).signature.sorts n) same ∙ two.1) in
    fine.sort_names s t x.0 y.0 x.1 y.1
    (sort_name x.0 one.0 one.2 ∙ ap (λ (u : Sort). folded u.name) alike ∙ sym (sort_name y.0 two.0 two.2))

operations_apart : (p q : Presentation) → IsWellFormedSignature q.signature → (f g : ℕ) (o r : Operation)
    → IsOperation q.signature f o → IsOperation q.signature g r → joined_operation p q f ≡ joined_operation p q g → f ≡ g
operations_apart p q fine f g o r at there same =
    let to : ℕ → ℕ = joined_sort p q in
    let one = (second_lies p q).operations f o at in
    let two = (second_lies p q).operations g r there in
    let alike : one.0 ≡ two.0 =
    same_Some _ _ (sym one.1 ∙ ap (λ (n : ℕ). slice_get (joined_presentation p q).signature.operations n) same ∙ two.1) in
    let both : AreAlike (operation_image to o) (operation_image to r) =
    both_alike (operation_image to o) (operation_image to r) two.0
    (subst (λ (u : Operation). AreAlike (operation_image to o) u) alike (same_operation (operation_image to o) one.0 one.2))
    (same_operation (operation_image to r) two.0 two.2) in
    fine.profiles f g o r at there both.name both.form
    (same_before to (λ (n : ℕ). IsSort q.signature n) (sorts_apart p q fine) o.arguments r.arguments
    (λ i s found. fine.arguments f i s o at found) (λ i s found. fine.arguments g i s r there found) both.arguments)
    (sorts_apart p q fine o.result r.result (fine.results f o at) (fine.results g r there) both.result)

pub stays_one_to_one : (p q : Presentation) → IsWellFormedSignature q.signature
    → IsOneToOne (joined_sort p q) (joined_operation p q) q.signature
stays_one_to_one p q fine = record { sorts = sorts_apart p q fine; operations = operations_apart p q fine }
