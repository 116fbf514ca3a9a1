-- What equal keys say.
use Rattle.std.proofs.Common.{◌≡◌, ℕ, Bool, true, false, List, [], ◌∷◌, ◌++◌, length, refl, ap, sym, ◌∙◌, arith}
use Rattle.std.specs.Prelude.{◌&&◌, ◌↔◌, not, nat_eq}
use Rattle.std.specs.Str.{bytes_eq}
use Rattle.std.proofs.lemmas.Bool.{eq-eqb, eqb-true, and_from}
use Rattle.std.proofs.lemmas.List.{length-map}
use Rattle.std.specs.Char.{to_ascii_lowercase}
use Rattle.lotos_base.proofs.Bytes.{same_bytes, bytes_same}
use Rattle.lotos_base.specs.Names.{folded}
use Rattle.lotos_base.specs.Signature.{Sort, Operation, Form, prefix_form, infix_form}
use Rattle.lotos_base.specs.Twins.{are_twins, form_eq}
use Rattle.lotos_base.proofs.Truth.{same_truth}
use Rattle.sort_terms.specs.WellFormedTest.{are_one_sort, are_one_operation}
use Rattle.sort_terms.proofs.NodeLemmas.{forms_eq, eq_forms}
use Rattle.type_definitions.specs.Presentation.{is_same_sort, is_same_operation}
use Rattle.sort_terms.specs.TermCode.{form_number}
use Rattle.type_presentations.specs.Keys.{name_key, sort_key, profile_key, twin_key, operation_key, KeysTell}

-- ---- Lists and tests.

first_is : (x y : ℕ) (xs ys : List ℕ) → x ∷ xs ≡ y ∷ ys → x ≡ y
first_is x y xs ys e = cc

rest_is : (x y : ℕ) (xs ys : List ℕ) → x ∷ xs ≡ y ∷ ys → xs ≡ ys
rest_is x y xs ys e = cc

-- lists of one length in front of others
split : (xs us ys vs : List ℕ) → length xs ≡ length us → xs ++ ys ≡ us ++ vs → (xs ≡ us) × (ys ≡ vs)
split [] [] ys vs as_many e = (refl, e)
split [] (u ∷ us) ys vs as_many e = absurd (omega arith)
split (x ∷ xs) [] ys vs as_many e = absurd (omega arith)
split (x ∷ xs) (u ∷ us) ys vs as_many e =
    let rest = split xs us ys vs (omega arith) (rest_is x u (xs ++ ys) (us ++ vs) e) in
    let first : x ≡ u = first_is x u (xs ++ ys) (us ++ vs) e in
    let whole : x ∷ xs ≡ u ∷ us = let tail : xs ≡ us = rest.0 in cc in
    (whole, rest.1)

left_of : (a b : Bool) → (a && b) ≡ true → a ≡ true
left_of true b e = refl
left_of false b e = cc

right_of : (a b : Bool) → (a && b) ≡ true → b ≡ true
right_of true b e = e
right_of false b e = cc

folded_length : (name : List ℕ) → length (folded name) ≡ length name
folded_length name = length-map name to_ascii_lowercase

-- one name has one length
one_length : (one other : List ℕ) → folded one ≡ folded other → length one ≡ length other
one_length one other e = sym (folded_length one) ∙ ap (λ (xs : List ℕ). length xs) e ∙ folded_length other

folded_lengths : (one other : List ℕ) → length one ≡ length other → length (folded one) ≡ length (folded other)
folded_lengths one other e = folded_length one ∙ e ∙ sym (folded_length other)

one_form : (one other : Form) → form_number one ≡ form_number other → one ≡ other
one_form prefix_form prefix_form e = refl
one_form prefix_form infix_form e = absurd (omega arith)
one_form infix_form prefix_form e = absurd (omega arith)
one_form infix_form infix_form e = refl

-- ---- Sorts.

names : (s t : Sort) → (name_key s ≡ name_key t) ↔ (are_one_sort s t ≡ true)
names s t = (bytes_same (folded s.name) (folded t.name), same_bytes (folded s.name) (folded t.name))

sorts : (s t : Sort) → (sort_key s ≡ sort_key t) ↔ (is_same_sort s t ≡ true)
sorts s t = (
  (λ e.
      let as_many : length s.name ≡ length t.name = first_is _ _ _ _ e in
      let parts =
      split (folded s.name) (folded t.name) (folded s.origin) (folded t.origin) (folded_lengths s.name t.name as_many)
      (rest_is (length s.name) (length t.name) (folded s.name ++ folded s.origin) (folded t.name ++ folded t.origin) e) in
      and_from _ _ (bytes_same (folded s.name) (folded t.name) parts.0) (bytes_same (folded s.origin) (folded t.origin) parts.1)),
  (λ h.
      let name : folded s.name ≡ folded t.name = same_bytes _ _ (left_of (bytes_eq (folded s.name) (folded t.name)) _ h) in
      let origin : folded s.origin ≡ folded t.origin =
      same_bytes _ _ (right_of (bytes_eq (folded s.name) (folded t.name)) (bytes_eq (folded s.origin) (folded t.origin)) h) in
      let as_many : length s.name ≡ length t.name = one_length s.name t.name name in
      cc),
)

-- ---- Operations.

-- one name, form and profile
record OneProfile (o p : Operation) : Type 0 where
  name : folded o.name ≡ folded p.name
  form : o.form ≡ p.form
  arguments : o.arguments ≡ p.arguments
  result : o.result ≡ p.result

one_profile : (o p : Operation) → are_one_operation o p ≡ true → OneProfile o p
one_profile o p h =
    let name_test : Bool = bytes_eq (folded o.name) (folded p.name) in
    let form_test : Bool = form_eq o.form p.form in
    let arguments_test : Bool = bytes_eq o.arguments p.arguments in
    let result_test : Bool = nat_eq o.result p.result in
    let front : (name_test && form_test) ≡ true = left_of (name_test && form_test) (arguments_test && result_test) h in
    let back : (arguments_test && result_test) ≡ true = right_of (name_test && form_test) (arguments_test && result_test) h in record {
      name = same_bytes (folded o.name) (folded p.name) (left_of name_test form_test front);
      form = forms_eq o.form p.form (right_of name_test form_test front);
      arguments = same_bytes o.arguments p.arguments (left_of arguments_test result_test back);
      result = eqb-true o.result p.result (right_of arguments_test result_test back);
    }

profile_one : (o p : Operation) → OneProfile o p → are_one_operation o p ≡ true
profile_one o p h =
    and_from _ _ (and_from _ _ (bytes_same (folded o.name) (folded p.name) h.name) (eq_forms o.form p.form h.form))
    (and_from _ _ (bytes_same o.arguments p.arguments h.arguments) (eq-eqb o.result p.result h.result))

profiles : (o p : Operation) → (profile_key o ≡ profile_key p) ↔ (are_one_operation o p ≡ true)
profiles o p = (
  (λ e.
      let form : form_number o.form ≡ form_number p.form = cc in
      let result : o.result ≡ p.result = cc in
      let as_many : length o.arguments ≡ length p.arguments = cc in
      let behind : o.arguments ++ folded o.name ≡ p.arguments ++ folded p.name = cc in
      let parts = split o.arguments p.arguments (folded o.name) (folded p.name) as_many behind in
      profile_one o p (record { name = parts.1; form = one_form o.form p.form form; arguments = parts.0; result = result })),
  (λ h.
      let one = one_profile o p h in
      let name = one.name in
      let form : form_number o.form ≡ form_number p.form = ap form_number one.form in
      let arguments : o.arguments ≡ p.arguments = one.arguments in
      let result : o.result ≡ p.result = one.result in
      cc),
)

-- twins have one key and other results
pub twins : (o p : Operation) → are_twins o p ≡ (bytes_eq (twin_key o) (twin_key p) && not (nat_eq o.result p.result))
twins o p = same_truth (are_twins o p) (bytes_eq (twin_key o) (twin_key p) && others) forth back
  where
    name_test : Bool
    name_test = bytes_eq (folded o.name) (folded p.name)

    form_test : Bool
    form_test = form_eq o.form p.form

    arguments_test : Bool
    arguments_test = bytes_eq o.arguments p.arguments

    others : Bool
    others = not (nat_eq o.result p.result)

    forth : are_twins o p ≡ true → (bytes_eq (twin_key o) (twin_key p) && others) ≡ true
    forth h =
        let front : (name_test && form_test) ≡ true = left_of (name_test && form_test) (arguments_test && others) h in
        let back : (arguments_test && others) ≡ true = right_of (name_test && form_test) (arguments_test && others) h in
        let name : folded o.name ≡ folded p.name =
        same_bytes (folded o.name) (folded p.name) (left_of name_test form_test front) in
        let form : form_number o.form ≡ form_number p.form =
        ap form_number (forms_eq o.form p.form (right_of name_test form_test front)) in
        let arguments : o.arguments ≡ p.arguments = same_bytes o.arguments p.arguments (left_of arguments_test others back) in
        let keys : twin_key o ≡ twin_key p = cc in
        and_from _ _ (bytes_same (twin_key o) (twin_key p) keys) (right_of arguments_test others back)

    back : (bytes_eq (twin_key o) (twin_key p) && others) ≡ true → are_twins o p ≡ true
    back h =
        let e : twin_key o ≡ twin_key p = same_bytes (twin_key o) (twin_key p) (left_of (bytes_eq (twin_key o) (twin_key p)) others h) in
        let form : form_number o.form ≡ form_number p.form = cc in
        let as_many : length o.arguments ≡ length p.arguments = cc in
        let behind : o.arguments ++ folded o.name ≡ p.arguments ++ folded p.name = cc in
        let parts = split o.arguments p.arguments (folded o.name) (folded p.name) as_many behind in
        and_from _ _
        (and_from _ _ (bytes_same (folded o.name) (folded p.name) parts.1) (eq_forms o.form p.form (one_form o.form p.form form)))
        (and_from _ _ (bytes_same o.arguments p.arguments parts.0) (right_of (bytes_eq (twin_key o) (twin_key p)) others h))

operations : (o p : Operation) → (operation_key o ≡ operation_key p) ↔ (is_same_operation o p ≡ true)
operations o p = (
  (λ e.
      let spelled : length o.name ≡ length p.name = cc in
      let form : form_number o.form ≡ form_number p.form = cc in
      let result : o.result ≡ p.result = cc in
      let as_many : length o.arguments ≡ length p.arguments = cc in
      let behind : o.arguments ++ (folded o.name ++ folded o.origin) ≡ p.arguments ++ (folded p.name ++ folded p.origin) = cc in
      let parts = split o.arguments p.arguments (folded o.name ++ folded o.origin) (folded p.name ++ folded p.origin) as_many behind in
      let ends =
      split (folded o.name) (folded p.name) (folded o.origin) (folded p.origin) (folded_lengths o.name p.name spelled) parts.1 in
      and_from _ _
      (profile_one o p (record { name = ends.0; form = one_form o.form p.form form; arguments = parts.0; result = result }))
      (bytes_same (folded o.origin) (folded p.origin) ends.1)),
  (λ h.
      let one = one_profile o p (left_of (are_one_operation o p) (bytes_eq (folded o.origin) (folded p.origin)) h) in
      let name : folded o.name ≡ folded p.name = one.name in
      let origin : folded o.origin ≡ folded p.origin =
      same_bytes _ _ (right_of (are_one_operation o p) (bytes_eq (folded o.origin) (folded p.origin)) h) in
      let spelled : length o.name ≡ length p.name = one_length o.name p.name name in
      let form : form_number o.form ≡ form_number p.form = ap form_number one.form in
      let arguments : o.arguments ≡ p.arguments = one.arguments in
      let result : o.result ≡ p.result = one.result in
      cc),
)

pub keys_tell : KeysTell
keys_tell = record { names = names; sorts = sorts; profiles = profiles; operations = operations }
