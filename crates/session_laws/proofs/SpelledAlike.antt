-- Data that are spelled alike are the same, and terms have the same texts over both.
use Rattle.std.proofs.Common.{◌≡◌, ℕ, zero, suc, List, [], ◌∷◌, ◌++◌, not, ◌&&◌, ◌||◌, Option, None, Some, if◌then◌else◌, refl, ap, sym, ◌∙◌}
use Rattle.std.specs.Prelude.{slice_get, nat_eq, codes}
use Rattle.std.specs.List.{list_any}
use Rattle.std.specs.Str.{bytes_eq}
use Rattle.lotos_base.specs.Names.{folded}
use Rattle.lotos_base.specs.Signature.{Sort, Operation, Form, prefix_form, infix_form, Signature}
use Rattle.lotos_base.specs.Term.{Term, Terms, variable, node, no_terms, term_then}
use Rattle.lotos_base.specs.Twins.{form_eq, are_twins, has_twin}
use Rattle.lotos_base.specs.Equation.{Data, Variable}
use Rattle.printed_texts.specs.Brackets.{bracketed}
use Rattle.printed_texts.specs.TermText.{sort_name, sort_text, Phrase, plain_phrase, operand_text, of_text, arguments_text, prefix_phrase, operator_text, infix_phrase, application_phrase, node_phrase, phrase_of, phrases_of, term_text}
use Rattle.certificate_theory.specs.SameData.{AreSameSorts, AreSameOperations, AreSameData}
use Rattle.certificate_theory.proofs.InterchangeableData.{data_turned}
use Rattle.session_laws.specs.SameSpelling.{AreSortsSpelledAlike, IsSpelledAs, AreOperationsSpelledAlike, AreSignaturesSpelledAlike, AreDataSpelledAlike}
use Rattle.session_laws.proofs.SamePlaces.{Both}

-- ---- The same data

same_sorts : (sorts others : List Sort) → AreSortsSpelledAlike sorts others → AreSameSorts sorts others
same_sorts [] [] alike = tt
same_sorts (s ∷ sorts) (r ∷ others) alike = (ap folded alike.0, same_sorts sorts others alike.1)
same_sorts [] (r ∷ others) alike = absurd alike
same_sorts (s ∷ sorts) [] alike = absurd alike

same_operations : (operations others : List Operation) → AreOperationsSpelledAlike operations others → AreSameOperations operations others
same_operations [] [] alike = tt
same_operations (o ∷ operations) (p ∷ others) alike = (
  record {
    name = ap folded alike.0.name;
    form = alike.0.form;
    arguments = alike.0.arguments;
    result = alike.0.result;
  },
  same_operations operations others alike.1,
)
same_operations [] (p ∷ others) alike = absurd alike
same_operations (o ∷ operations) [] alike = absurd alike

pub same_data : (data_ other : Data) → AreDataSpelledAlike data_ other → AreSameData data_ other
same_data data_ other alike = record {
  sorts = same_sorts data_.signature.sorts other.signature.sorts alike.signatures.sorts;
  operations = same_operations data_.signature.operations other.signature.operations alike.signatures.operations;
  equations = alike.equations;
}

sorts_turned : (sorts others : List Sort) → AreSortsSpelledAlike sorts others → AreSortsSpelledAlike others sorts
sorts_turned [] [] alike = tt
sorts_turned (s ∷ sorts) (r ∷ others) alike = (sym alike.0, sorts_turned sorts others alike.1)
sorts_turned [] (r ∷ others) alike = absurd alike
sorts_turned (s ∷ sorts) [] alike = absurd alike

operations_turned : (operations others : List Operation) → AreOperationsSpelledAlike operations others
    → AreOperationsSpelledAlike others operations
operations_turned [] [] alike = tt
operations_turned (o ∷ operations) (p ∷ others) alike = (
  record {
    name = sym alike.0.name;
    form = sym alike.0.form;
    arguments = sym alike.0.arguments;
    result = sym alike.0.result;
  },
  operations_turned operations others alike.1,
)
operations_turned [] (p ∷ others) alike = absurd alike
operations_turned (o ∷ operations) [] alike = absurd alike

pub spelling_turned : (data_ other : Data) → AreDataSpelledAlike data_ other → AreDataSpelledAlike other data_
spelling_turned data_ other alike = record {
  signatures = record {
    sorts = sorts_turned data_.signature.sorts other.signature.sorts alike.signatures.sorts;
    operations = operations_turned data_.signature.operations other.signature.operations alike.signatures.operations;
  };
  equations = (data_turned data_ other (same_data data_ other alike)).equations;
}

-- ---- Places

name_found : (sorts others : List Sort) → AreSortsSpelledAlike sorts others → (n : ℕ)
    → sort_name (slice_get sorts n) ≡ sort_name (slice_get others n)
name_found [] [] alike n = refl
name_found (s ∷ sorts) (r ∷ others) alike zero = alike.0
name_found (s ∷ sorts) (r ∷ others) alike (suc n) = name_found sorts others alike.1 n
name_found [] (r ∷ others) alike n = absurd alike
name_found (s ∷ sorts) [] alike n = absurd alike

found : (operations others : List Operation) → AreOperationsSpelledAlike operations others → (n : ℕ)
    → Both IsSpelledAs (slice_get operations n) (slice_get others n)
found [] [] alike n = tt
found (o ∷ operations) (p ∷ others) alike zero = alike.0
found (o ∷ operations) (p ∷ others) alike (suc n) = found operations others alike.1 n
found [] (p ∷ others) alike n = absurd alike
found (o ∷ operations) [] alike n = absurd alike

twins_alike : (o p : Operation) → IsSpelledAs o p → (operations others : List Operation) → AreOperationsSpelledAlike operations others
    → list_any (are_twins o) operations ≡ list_any (are_twins p) others
twins_alike o p same [] [] alike = refl
twins_alike o p same (q ∷ operations) (r ∷ others) alike =
    let rest = twins_alike o p same operations others alike.1 in
    let twin = alike.0 in
    (λ i.
    ((bytes_eq (folded (same.name i)) (folded (twin.name i)) && form_eq (same.form i) (twin.form i))
    && (bytes_eq (same.arguments i) (twin.arguments i) && not (nat_eq (same.result i) (twin.result i))))
    || rest i)
twins_alike o p same [] (r ∷ others) alike = absurd alike
twins_alike o p same (q ∷ operations) [] alike = absurd alike

-- ---- Texts of terms

module _ (signature other : Signature) (alike : AreSignaturesSpelledAlike signature other) where
  pub sorts_printed : (n : ℕ) → sort_text signature n ≡ sort_text other n
  sorts_printed n = name_found signature.sorts other.sorts alike.sorts n

  module _ (o p : Operation) (same : IsSpelledAs o p) where
    has_twins : has_twin signature o ≡ has_twin other p
    has_twins = twins_alike o p same signature.operations other.operations alike.operations

    result_printed : sort_text signature o.result ≡ sort_text other p.result
    result_printed = sorts_printed o.result ∙ ap (sort_text other) same.result

    of_printed : of_text signature o ≡ of_text other p
    of_printed = λ i. if has_twins i then codes " of " ++ result_printed i else []

    prefix_printed : (phrases : List Phrase) → prefix_phrase signature o phrases ≡ prefix_phrase other p phrases
    prefix_printed phrases = λ i. plain_phrase (same.name i ++ arguments_text phrases ++ of_printed i)

    infix_printed : (left right : Phrase) → infix_phrase signature o left right ≡ infix_phrase other p left right
    infix_printed left right = λ i. record {
      text = bracketed (has_twins i) (operand_text left ++ operator_text (same.name i) ++ operand_text right) ++ of_printed i;
      is_infix = not (has_twins i);
    }

    application_printed : (form : Form) (phrases : List Phrase)
        → application_phrase signature o form phrases ≡ application_phrase other p form phrases
    application_printed prefix_form phrases = prefix_printed phrases
    application_printed infix_form [] = prefix_printed []
    application_printed infix_form (left ∷ []) = prefix_printed (left ∷ [])
    application_printed infix_form (left ∷ right ∷ []) = infix_printed left right
    application_printed infix_form (left ∷ right ∷ third ∷ phrases) = prefix_printed (left ∷ right ∷ third ∷ phrases)

  node_printed : (o p : Option Operation) → Both IsSpelledAs o p → (phrases : List Phrase)
      → node_phrase signature o phrases ≡ node_phrase other p phrases
  node_printed None None same phrases = refl
  node_printed (Some o) (Some p) same phrases =
      application_printed o p same o.form phrases ∙ ap (λ (form : Form). application_phrase other p form phrases) same.form
  node_printed None (Some p) same phrases = absurd same
  node_printed (Some o) None same phrases = absurd same

  mutual
    phrase_printed : (names : List Variable) (t : Term) → phrase_of signature names t ≡ phrase_of other names t
    phrase_printed names (variable n s) = refl
    phrase_printed names (node f ts) =
        ap (node_phrase signature (slice_get signature.operations f)) (phrases_printed names ts)
        ∙ node_printed (slice_get signature.operations f) (slice_get other.operations f)
        (found signature.operations other.operations alike.operations f) (phrases_of other names ts)

    phrases_printed : (names : List Variable) (ts : Terms) → phrases_of signature names ts ≡ phrases_of other names ts
    phrases_printed names no_terms = refl
    phrases_printed names (term_then t ts) =
        let first = phrase_printed names t in
        let rest = phrases_printed names ts in
        (λ i. first i ∷ rest i)

  -- as functions
  pub terms_printed : term_text signature ≡ term_text other
  terms_printed = λ i names t. (phrase_printed names t i).text
