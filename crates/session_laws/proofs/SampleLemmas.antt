-- The sample data meet what the laws ask for.
use Rattle.std.proofs.Common.{◌≡◌, ℕ, zero, suc, ◌≤◌, List, [], ◌∷◌, length, refl, subst, arith, inl, inr}
use Rattle.std.specs.Prelude.{Some, slice_get, codes}
use Rattle.std.proofs.lemmas.Option.{none-some, same_Some}
use Rattle.lotos_base.specs.Signature.{Sort, Operation, infix_form, IsWellFormedSignature}
use Rattle.lotos_base.specs.Sorting.{IsGroundOf}
use Rattle.lotos_base.specs.Term.{Term}
use Rattle.sort_terms.proofs.WellFormedLemmas.{well_formed_test}
use Rattle.session_histories.specs.HandedOn.{node_limit, printed_sample_signature, printed_a, printed_f, printed_plus, star, small_d, capital_d, minus}
use Rattle.session_laws.specs.TextNames.{IsWordSpelling, IsSignSpelling, IsOperationSpelling, HasTextNames}
use Rattle.session_laws.specs.TermDepth.{term_depth}
use Rattle.session_laws.specs.SampleTexts.{SampleTextsAreReadBack}
use Rattle.session_laws.proofs.TermsReadBackLemmas.{term_texts_read_back, term_lists_read_back}

-- what is asked of an operation
abbrev IsFine : Operation → Type 0
IsFine o = IsOperationSpelling o.name × (o.form ≡ infix_form → length o.arguments ≡ 2)

abbrev AreFine : List Operation → Type 0
AreFine [] = Unit {0}
AreFine (o ∷ os) = IsFine o × AreFine os

fine_at : (operations : List Operation) → AreFine operations → (i : ℕ) (o : Operation) → slice_get operations i ≡ Some o → IsFine o
fine_at [] fine i o found = absurd (none-some o found)
fine_at (p ∷ ps) fine zero o found = subst IsFine (same_Some p o found) fine.0
fine_at (p ∷ ps) fine (suc i) o found = fine_at ps fine.1 i o found

abbrev AreWords : List Sort → Type 0
AreWords [] = Unit {0}
AreWords (s ∷ ss) = IsWordSpelling s.name × AreWords ss

word_at : (sorts : List Sort) → AreWords sorts → (i : ℕ) (s : Sort) → slice_get sorts i ≡ Some s → IsWordSpelling s.name
word_at [] words i s found = absurd (none-some s found)
word_at (r ∷ rs) words zero s found = subst (λ (it : Sort). IsWordSpelling it.name) (same_Some r s found) words.0
word_at (r ∷ rs) words (suc i) s found = word_at rs words.1 i s found

a_word : (name : List ℕ) → IsWordSpelling name → IsOperationSpelling name
a_word name is = inl is

a_sign : (name : List ℕ) → IsSignSpelling name → IsOperationSpelling name
a_sign name is = inr (inr is)

operations_fine : AreFine printed_sample_signature.operations
operations_fine = (
  (a_word (codes "a") (record { begins = refl; whole = refl; not_reserved = refl }), (λ h. cc)),
  (
    (a_word (codes "f") (record { begins = refl; whole = refl; not_reserved = refl }), (λ h. cc)),
    (
      (a_sign (codes "+") (record { begins = refl; whole = refl; not_reserved = refl }), (λ h. refl)),
      (
        (a_sign (codes "*") (record { begins = refl; whole = refl; not_reserved = refl }), (λ h. cc)),
        (
          (a_sign (codes ">") (record { begins = refl; whole = refl; not_reserved = refl }), (λ h. cc)),
          (
            (a_word (codes "d") (record { begins = refl; whole = refl; not_reserved = refl }), (λ h. cc)),
            (
              (a_word (codes "D") (record { begins = refl; whole = refl; not_reserved = refl }), (λ h. cc)),
              (
                (a_sign (codes "-") (record { begins = refl; whole = refl; not_reserved = refl }), (λ h. refl)),
                (
                  (a_sign (codes "-") (record { begins = refl; whole = refl; not_reserved = refl }), (λ h. refl)),
                  (
                    (a_word (codes "h") (record { begins = refl; whole = refl; not_reserved = refl }), (λ h. cc)),
                    (
                      (a_word (codes "h") (record { begins = refl; whole = refl; not_reserved = refl }), (λ h. refl)),
                      tt,
                    ),
                  ),
                ),
              ),
            ),
          ),
        ),
      ),
    ),
  ),
)

sorts_fine : AreWords printed_sample_signature.sorts
sorts_fine =
    (record { begins = refl; whole = refl; not_reserved = refl }, (record { begins = refl; whole = refl; not_reserved = refl }, tt))

sample_fine : IsWellFormedSignature printed_sample_signature
sample_fine = well_formed_test printed_sample_signature refl

sample_names : HasTextNames printed_sample_signature
sample_names = record {
  operations = λ i o found. (fine_at printed_sample_signature.operations operations_fine i o found).0;
  sorts = word_at printed_sample_signature.sorts sorts_fine;
  infix_operations = λ i o found. (fine_at printed_sample_signature.operations operations_fine i o found).1;
}

a_sorted : IsGroundOf printed_sample_signature 0 printed_a
a_sorted = record { ground = tt; sorted = (_, refl, refl, tt) }

small_d_sorted : IsGroundOf printed_sample_signature 0 small_d
small_d_sorted = record { ground = tt; sorted = (_, refl, refl, tt) }

capital_d_sorted : IsGroundOf printed_sample_signature 1 capital_d
capital_d_sorted = record { ground = tt; sorted = (_, refl, refl, tt) }

star_sorted : (t : Term) → IsGroundOf printed_sample_signature 0 t → IsGroundOf printed_sample_signature 0 (star t)
star_sorted t is = record { ground = (is.ground, tt); sorted = (_, refl, refl, (is.sorted, tt)) }

f_sorted : (t : Term) → IsGroundOf printed_sample_signature 0 t → IsGroundOf printed_sample_signature 0 (printed_f t)
f_sorted t is = record { ground = (is.ground, tt); sorted = (_, refl, refl, (is.sorted, tt)) }

plus_sorted : (t u : Term) → IsGroundOf printed_sample_signature 0 t → IsGroundOf printed_sample_signature 0 u
    → IsGroundOf printed_sample_signature 0 (printed_plus t u)
plus_sorted t u one other =
    record { ground = (one.ground, (other.ground, tt)); sorted = (_, refl, refl, (one.sorted, (other.sorted, tt))) }

minus_sorted : (t u : Term) → IsGroundOf printed_sample_signature 0 t → IsGroundOf printed_sample_signature 0 u
    → IsGroundOf printed_sample_signature 0 (minus t u)
minus_sorted t u one other =
    record { ground = (one.ground, (other.ground, tt)); sorted = (_, refl, refl, (one.sorted, (other.sorted, tt))) }

constants_shallow : (i : ℕ) (t : Term) → slice_get (small_d ∷ capital_d ∷ []) i ≡ Some t → term_depth t ≤ node_limit
constants_shallow zero t found = subst (λ (u : Term). term_depth u ≤ node_limit) (same_Some small_d t found) (omega arith)
constants_shallow (suc zero) t found = subst (λ (u : Term). term_depth u ≤ node_limit) (same_Some capital_d t found) (omega arith)
constants_shallow (suc (suc i)) t found = absurd (none-some t found)

pub samples_read_back : SampleTextsAreReadBack
samples_read_back = record {
  well_formed = sample_fine;
  names = sample_names;
  star_apart = term_texts_read_back printed_sample_signature sample_fine sample_names 0 0 (printed_f (star printed_a))
      (f_sorted (star printed_a) (star_sorted printed_a a_sorted))
      (omega arith);
  twins_apart =
      term_texts_read_back printed_sample_signature sample_fine sample_names 0 0
      (printed_plus printed_a (printed_plus (minus printed_a printed_a) small_d))
      (plus_sorted printed_a (printed_plus (minus printed_a printed_a) small_d) a_sorted
      (plus_sorted (minus printed_a printed_a) small_d (minus_sorted printed_a printed_a a_sorted a_sorted)
      small_d_sorted))
      (omega arith);
  listed =
      term_lists_read_back printed_sample_signature sample_fine sample_names 0 (0 ∷ 1 ∷ []) (small_d ∷ capital_d ∷ [])
      (small_d_sorted, (capital_d_sorted, tt)) constants_shallow;
  nothing = term_lists_read_back printed_sample_signature sample_fine sample_names 0 [] [] tt (λ i t found. absurd (none-some t found));
}
