-- The worked cases hold.
use Rattle.std.proofs.Common.{◌≡◌, ℕ, zero, suc, ◌<◌, true, false, List, [], ◌∷◌, refl, ap, sym, ◌∙◌, arith, codes}
use Rattle.std.specs.Prelude.{Some, slice_get}
use Rattle.std.specs.Str.{bytes_eq}
use Rattle.std.proofs.lemmas.Option.{none-some, same_Some}
use Rattle.std.proofs.lemmas.Bool.Decides.{not_from_Decides}
use Rattle.std.proofs.lemmas.Bool.{true≢false, false≢true}
use Rattle.lotos_base.proofs.Bytes.{bytes_same}
use Rattle.lotos_base.proofs.SignatureLemmas.{Decides-has_twin}
use Rattle.lotos_base.specs.Equation.{Variable}
use Rattle.lotos_base.specs.Names.{folded, AreOneName}
use Rattle.lotos_base.specs.Signature.{Operation, prefix_form}
use Rattle.lotos_base.specs.Twins.{HasTwin, has_twin}
use Rattle.sort_terms.specs.Reading.{IsLastNamed, NoneNamed}
use Rattle.session_histories.specs.HandedOn.{printed_sample_signature, printed_operation, printed_a}
use Rattle.session_laws.specs.WrittenAs.{no_mark}
use Rattle.session_laws.specs.TermMeanings.{TermMeans}
use Rattle.session_laws.specs.WrittenBehaviours.{stop_written, action_written, hide_written, value_choice_written}
use Rattle.session_laws.specs.MeaningExamples.{sample_variable, MeaningExamples}

-- `x` is not the name of the constant
not_a : (i : ℕ) (v : Variable) → slice_get (sample_variable (codes "x") ∷ []) i ≡ Some v → ¬ AreOneName v.name (codes "a")
not_a zero v at same =
    let one : sample_variable (codes "x") ≡ v = same_Some (sample_variable (codes "x")) v at in
    let equal : folded (codes "x") ≡ folded (codes "a") = ap (λ (w : Variable). folded w.name) one ∙ same in
    let never : false ≡ true = bytes_same (folded (codes "x")) (folded (codes "a")) equal in
    false≢true never
not_a (suc i) v at same = none-some v at

x_is_last : IsLastNamed (sample_variable (codes "x") ∷ []) (codes "x") (sample_variable (codes "x"))
x_is_last = record { position = 0; found = refl; named = refl; last = later }
  where
    later : (i : ℕ) (w : Variable) → 0 < i → slice_get (sample_variable (codes "x") ∷ []) i ≡ Some w → ¬ AreOneName w.name (codes "x")
    later zero w before at same = let no : ⊥ = omega (arith, before) in no
    later (suc i) w before at same = none-some w at

abbrev a_operation : Operation
a_operation = printed_operation (codes "a") prefix_form [] 0

hidden_by_a : ¬ TermMeans printed_sample_signature (sample_variable (codes "A") ∷ []) (sample_variable (codes "A") ∷ []) printed_a 0
hidden_by_a means =
    let same : a_operation ≡ means.0 = same_Some a_operation means.0 means.1 in
    means.2 (ap (λ (o : Operation). o.form) (sym same)) 0 (sample_variable (codes "A")) refl
    (ap (λ (o : Operation). folded o.name) same)

zero_one : ◌≡◌ {A = List ℕ} (0 ∷ []) (1 ∷ []) → ⊥
zero_one same = let never : false ≡ true = bytes_same (0 ∷ []) (1 ∷ []) same in false≢true never

pub meaning_examples : MeaningExamples
meaning_examples = record {
  plain_constant = (a_operation, refl, (λ formed. not_a), refl, tt);
  hidden_constant = hidden_by_a;
  written_constant = (
    a_operation,
    refl,
    record {
      named = refl;
      formed = refl;
      marked =
          no_mark
          (not_from_Decides (has_twin printed_sample_signature a_operation) (Decides-has_twin printed_sample_signature a_operation) refl);
    },
    tt,
  );
  written_variable = record { named = refl; formed = refl; unmarked = refl };
  text = refl;
  means = (
    record { numbered = refl; distinct = (refl, tt) },
    (
      record { numbered = (refl, tt); sorted = (refl, tt); distinct = (refl, tt) },
      (
        refl,
        (
          (0, (record { declared = sample_variable (codes "x"); last = x_is_last; numbered = refl; sorted = refl }, refl)),
          tt,
        ),
        record { numbered = tt; sorted = tt; distinct = tt },
        tt,
        tt,
      ),
    ),
  );
  writes =
      hide_written refl
      (value_choice_written (refl, refl)
      (action_written refl (record { named = refl; formed = refl; unmarked = refl }, tt) tt stop_written));
  other_number = λ means. zero_one means.0.numbered;
  one_name = λ none. true≢false none.1.0;
  two_names = (refl, (refl, tt));
  given_names = refl;
}
