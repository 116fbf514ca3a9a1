-- What is flattened comes alike where its flat text stands on a shelf.
use Rattle.std.proofs.Common.{◌≡◌, ◌≤◌, ◌+◌, ℕ, zero, suc, List, [], ◌∷◌, length, take, Option, Some, refl, ap, ◌∙◌, subst, arith}
use Rattle.std.specs.Prelude.{option_map}
use Rattle.lotos_base.specs.Limits.{text_limit}
use Rattle.lotos_base.specs.Outside.{Texts}
use Rattle.flat_text.specs.FlatText.{flat_text}
use Rattle.session_laws.specs.AgreementLaws.{NoDisagreementIsAgreement}
use Rattle.lotos_top.specs.Flattening.{flat_printed}
use Rattle.lotos_top.specs.HandedOn.{Beginning, Founded, IsFounded, asked_acceptance, Comes, goes_on, Has, Telling, ComesOfPart, Refused, Print, print, Finish, prints, serves, refusal_printed, Done}
use Rattle.lotos_top.specs.Opening.{opening_text}
use Rattle.lotos_top.proofs.HandedOn.{outcomes_over_texts_are_one}
use Rattle.session_laws.specs.Alike.{AreFoundedAlike}
use Rattle.session_laws.specs.AlikeLaws.{FoundedOver, RunAlike}
use Rattle.session_laws.specs.FlatRuns.{FlattenedTextsStandForTheSame, HasTextOfName, ComesAlike, FlatTextsRunAlike}
use Rattle.session_laws.specs.OneBeginning.{SessionsBeginOnce}
use Rattle.session_laws.specs.ReadBack.{IsReadBack, IsGotUnder}
use Rattle.session_laws.proofs.AlikeLemmas.{what_is_founded_alike_runs_alike}
use Rattle.session_laws.proofs.FirstParts.{founding_in, acceptance_in}
use Rattle.session_laws.proofs.OneWork.{work_is_one}
use Rattle.session_laws.proofs.ReadBackLemmas.{got_first, texts_read_back_are_accepted}
use Rattle.session_laws.proofs.WentOn.{went_on}

-- ---- A text within the limit

take_all : (n : ℕ) (xs : List ℕ) → length xs ≤ n → take n xs ≡ xs
take_all zero [] within = refl
take_all zero (x ∷ xs) within = absurd (omega (arith, within))
take_all (suc n) [] within = refl
take_all (suc n) (x ∷ xs) within = ap (λ (ys : List ℕ). x ∷ ys) (take_all n xs (omega (arith, within)))

stands_under : (texts others : Texts) (name : List ℕ) (order : Option (List ℕ)) (text : List ℕ) → length text ≤ text_limit
    → HasTextOfName texts others name order text → IsGotUnder texts others name order text
stands_under texts others name order text within has = record {
  got =
      ap (λ (o : Option (List ℕ)). option_map (λ (bytes : List ℕ). take (text_limit + 1) bytes) o) has.there
      ∙ ap (λ (bytes : List ℕ). Some bytes) (take_all (text_limit + 1) text (omega (arith, within)));
  same_order = has.same_order;
}

-- ---- What comes

module _ (laws : NoDisagreementIsAgreement) (once : SessionsBeginOnce) (texts others : Texts) (spec name : List ℕ)
    (order : Option (List ℕ)) (founded : Founded) (text : List ℕ) (over : FoundedOver texts spec order founded)
    (under : IsGotUnder texts others name order text) (read : IsReadBack founded text) where
  -- it is accepted alike, and runs alike
  record AcceptedAgain : Type 0 where
    pub other : Founded
    pub also : FoundedOver others name order other
    pub alike : AreFoundedAlike founded other
    pub runs : RunAlike texts others spec name order order

  accepted_again : (comes : Comes Refused Founded) → ComesOfPart others (IsFounded name order) comes → AcceptedAgain
  accepted_again comes is =
      let found = texts_read_back_are_accepted laws texts others spec name order founded text comes over under read is in
      let also : FoundedOver others name order found.0 =
      subst (λ (c : Comes Refused Founded). ComesOfPart others (IsFounded name order) c) found.1 is in
      record {
        other = found.0;
        also = also;
        alike = found.2;
        runs = (what_is_founded_alike_runs_alike texts others spec name order order founded found.0 over also found.2).0;
      }

  comes_alike : ComesAlike texts others spec name order founded
  comes_alike = record {
    founds = λ comes is. texts_read_back_are_accepted laws texts others spec name order founded text comes over under read is;
    accepts = λ values acceptance comes first second.
        let found = founding_in others (asked_acceptance name order values) comes second in
        let again = accepted_again found.0 found.1 in
        let there = again.runs.acceptances values acceptance first in (
          there.0,
          outcomes_over_texts_are_one others (asked_acceptance name order values) comes (goes_on there.0) second there.1,
          there.2,
        );
    refuses = λ values told comes first second.
        let found = founding_in others (asked_acceptance name order values) comes second in
        let again = accepted_again found.0 found.1 in
        let there = again.runs.refusals values told first in (
          there.0,
          outcomes_over_texts_are_one others (asked_acceptance name order values) comes _ second there.1,
          there.2,
        );
    checks = λ values report comes first second.
        let next = λ (begun : Beginning). Has (prints (print (opening_text begun) Done)) in
        let accepts = acceptance_in others (asked_acceptance name order values) next comes second in
        let found = founding_in others (asked_acceptance name order values) accepts.0 accepts.1 in
        let again = accepted_again found.0 found.1 in
        work_is_one once others (asked_acceptance name order values) (λ (begun : Beginning). prints (print (opening_text begun) Done))
        (prints report) comes (again.runs.reports values report first) second;
    runs = λ values begun comes first second.
        let next = λ (first_ : Beginning). Has (serves first_) in
        let accepts = acceptance_in others (asked_acceptance name order values) next comes second in
        let found = founding_in others (asked_acceptance name order values) accepts.0 accepts.1 in
        let again = accepted_again found.0 found.1 in
        let there = again.runs.sessions values begun first in (
          there.0,
          work_is_one once others (asked_acceptance name order values) (λ (first_ : Beginning). serves first_)
              (serves there.0) comes there.1
              second,
          there.2,
        );
  }

-- ---- What was flattened

-- the text that is printed, or another one
abbrev printed : Print → Finish → Print
printed other (prints p) = p
printed other (serves begun) = other

pub flat_texts_run_alike : NoDisagreementIsAgreement → SessionsBeginOnce → FlattenedTextsStandForTheSame → FlatTextsRunAlike
flat_texts_run_alike laws once read_back texts spec order report comes =
    let founds = went_on (Telling (refusal_printed spec order) (IsFounded spec order)) (λ founded. Has (prints (flat_printed founded)))
    comes.files (prints report) comes.came in
    let founded : Founded = founds.found in
    let over : FoundedOver texts spec order founded = record {
      files = founds.got;
      came = founds.first;
      got_files = got_first texts comes.files founds.got founds.later founds.cut comes.got_files;
      lacks = tt;
    } in
    let is_flat : report ≡ flat_printed founded = ap (λ (finish : Finish). printed report finish) founds.second.1 in
    let is_text : report.text ≡ flat_text founded.data_ founded.spec = ap (λ (p : Print). p.text) is_flat in
    record {
      founded = founded;
      over = over;
      is_flat = is_flat;
      again = λ within others name has.
          let under : IsGotUnder texts others name order (flat_text founded.data_ founded.spec) =
          stands_under texts others name order (flat_text founded.data_ founded.spec)
          (subst (λ (t : List ℕ). length t ≤ text_limit) is_text within)
          (subst (λ (t : List ℕ). HasTextOfName texts others name order t) is_text has) in
          comes_alike laws once texts others spec name order founded (flat_text founded.data_ founded.spec) over under
          (read_back texts spec order founded over (subst (λ (t : List ℕ). length t ≤ text_limit) is_text within));
    }
