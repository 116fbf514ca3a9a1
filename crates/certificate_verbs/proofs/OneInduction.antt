-- One thing comes of a certificate of induction.
use Rattle.std.proofs.Common.{◌≡◌, ℕ, List, [], ◌∷◌, ◌++◌, length, Option, None, Some, refl, sym, ap, ◌∙◌, subst, arith}
use Rattle.lotos_base.specs.Equation.{Data, Equation, IsWellFormedData}
use Rattle.lotos_base.specs.Outside.{Texts}
use Rattle.induct_check.specs.CheckView.{IsCertifiedText}
use Rattle.induct_check.specs.HandedOn.{Theory, Lemma, Certificate, InductionFault, FirstFaultsAreOne, RightOnesHaveNoFault, RequirementsAreMetOnce, MetIsNotOpen}
use Rattle.induct_check.specs.TextFaults.{IsTextFault}
use Rattle.induct_check.proofs.OneText.{certified_once, certified_not_faulty, text_fault_once}
use Rattle.command_words.specs.HandedOn.{Acceptance, got_from, ComesOfPart, Files, rules_of, NumberedRule, TextNames, Comes, Has}
use Rattle.command_words.specs.HandedOn.{IsDetermined, IsDecided, GetsFile}
use Rattle.command_words.proofs.HandedOn.{accepted_data, normal_forms_once, opened_rules_once, one_of_part, requirements_are_one}
use Rattle.command_words.proofs.HandedOn.{has_determined, looks_determined, then_determined, gets_determined}
use Rattle.command_words.specs.Words.{Induced}
use Rattle.certificate_verbs.specs.Comparing.{AcceptsNamed}
use Rattle.certificate_verbs.specs.Finishing.{Print, print, Finish, prints}
use Rattle.certificate_verbs.specs.Inducing.{IsTheoryOf, HasAnswer, requirement_line, AreLines, certified_counts_text, names_in, IsReport, InductionRefusal, proofs_too_long, wrong_at, IsRefusedBy, induction_refused, ChecksProofs, ReportsThen, ProvesThen, ChecksInduction}
use Rattle.certificate_verbs.specs.declared.ended.Ended.TheVariants.{Done}
use Rattle.certificate_verbs.proofs.OneCertificate.{named_determined}

-- ---- The theory

theory_once : (one : Acceptance) → IsWellFormedData one.data_ → (theory other : Theory) → IsTheoryOf one theory → IsTheoryOf one other
    → theory ≡ other
theory_once one well theory other is also =
    let datas : theory.data_ ≡ other.data_ = is.data_is ∙ sym also.data_is in
    let same : is.rules ≡ also.rules =
    opened_rules_once one.items one.data_ well is.precedence also.precedence is.rules also.rules is.opened also.opened in
    let rules : theory.rules ≡ other.rules = is.rules_are ∙ ap (λ (rs : List NumberedRule). rules_of rs) same ∙ sym also.rules_are in
    let canon : theory.canon ≡ other.canon =
    normal_forms_once one.items one.data_ well is.precedence also.precedence is.rules also.rules is.opened also.opened theory.canon
    other.canon is.canonical also.canonical in
    (λ i. record { data_ = datas i; rules = rules i; canon = canon i })

-- ---- The lines

module _ (met : RequirementsAreMetOnce) (open_ : MetIsNotOpen) (names : TextNames) (lemmas : List Lemma) where
  -- the laws speak of certificates
  abbrev with_lemmas : Certificate
  with_lemmas = record { covers = []; trees = []; lemmas = lemmas }

  answer_once : (equation : Equation) (one other : Option ℕ) → HasAnswer lemmas equation one → HasAnswer lemmas equation other
      → one ≡ other
  answer_once equation None None is also = refl
  answer_once equation None (Some k) is also = absurd (open_ with_lemmas equation k also is)
  answer_once equation (Some k) None is also = absurd (open_ with_lemmas equation k is also)
  answer_once equation (Some j) (Some k) is also = ap (λ (n : ℕ). Some n) (met with_lemmas equation j k is also)

  lines_once : (equations : List Equation) (one other : List ℕ) → AreLines names lemmas equations one
      → AreLines names lemmas equations other → one ≡ other
  lines_once [] one other is also = is ∙ sym also
  lines_once (equation ∷ equations) one other is also =
      let answer : is.0 ≡ also.0 = answer_once equation is.0 also.0 is.2 also.2 in
      let rest : is.1 ≡ also.1 = lines_once equations is.1 also.1 is.3 also.3 in
      is.4 ∙ (λ i. requirement_line names equation (answer i) ++ rest i) ∙ sym also.4

-- ---- What is decided

module _ (one_fault : FirstFaultsAreOne) (no_fault : RightOnesHaveNoFault) (met : RequirementsAreMetOnce) (open_ : MetIsNotOpen)
    (spec : List ℕ) (one : Acceptance) (well : IsWellFormedData one.data_) (text : List ℕ) where
  -- what holds by one theory holds by another one
  certified_there : (lemmas : List Lemma) (theory other : Theory) → theory ≡ other → IsCertifiedText other text lemmas
      → IsCertifiedText theory text lemmas
  certified_there lemmas theory other same is = subst (λ (t : Theory). IsCertifiedText t text lemmas) (sym same) is

  module _ (theory : Theory) (theory_is : IsTheoryOf one theory) where
    well_there : IsWellFormedData theory.data_
    well_there = subst (λ (d : Data). IsWellFormedData d) (sym theory_is.data_is) well

    lemmas_once : (xs ys : List Lemma) (other : Theory) → IsTheoryOf one other → IsCertifiedText theory text xs
        → IsCertifiedText other text ys → xs ≡ ys
    lemmas_once xs ys other also first second =
        certified_once one_fault no_fault theory text well_there.signature xs ys first
        (certified_there ys theory other (theory_once one well theory other theory_is also) second)

    faults_once : (line more : ℕ) (fault wrong : InductionFault) (other : Theory) → IsTheoryOf one other
        → IsTextFault theory text line fault → IsTextFault other text more wrong → (line ≡ more) × (fault ≡ wrong)
    faults_once line more fault wrong other also first second =
        text_fault_once one_fault no_fault theory text well_there.signature line more fault wrong first
        (subst (λ (t : Theory). IsTextFault t text more wrong) (sym (theory_once one well theory other theory_is also)) second)

    certified_or_faulty : (xs : List Lemma) (line : ℕ) (fault : InductionFault) (other : Theory) → IsTheoryOf one other
        → IsCertifiedText theory text xs → IsTextFault other text line fault → ⊥
    certified_or_faulty xs line fault other also first second =
        certified_not_faulty one_fault no_fault theory text well_there.signature xs line fault first
        (subst (λ (t : Theory). IsTextFault t text line fault) (sym (theory_once one well theory other theory_is also)) second)

  report_once : (report other : List ℕ) → IsReport spec one text report → IsReport spec one text other → report ≡ other
  report_once report other is also =
      let lemmas : is.lemmas ≡ also.lemmas =
      lemmas_once is.checked.theory is.checked.theory_is is.lemmas also.lemmas also.checked.theory also.checked.theory_is
      is.checked.certified also.checked.certified in
      let requirements : is.requirements ≡ also.requirements =
      requirements_are_one one.types is.requirements also.requirements is.required also.required in
      let lines : is.lines ≡ also.lines =
      lines_once met open_ (names_in spec one) is.lemmas is.requirements is.lines also.lines is.answered
      (subst (λ (ls : List Lemma). AreLines (names_in spec one) ls is.requirements also.lines) (sym lemmas)
      (subst (λ (es : List Equation). AreLines (names_in spec one) also.lemmas es also.lines) (sym requirements) also.answered)) in
      is.report_is ∙ (λ i. certified_counts_text (length (lemmas i)) (length (requirements i)) ++ lines i) ∙ sym also.report_is

  report_or_refused : (report : List ℕ) (refusal : InductionRefusal) → IsReport spec one text report → IsRefusedBy one text refusal → ⊥
  report_or_refused report proofs_too_long is long = let short = is.short in omega (arith, short, long)
  report_or_refused report (wrong_at line fault) is wrong =
      certified_or_faulty is.checked.theory is.checked.theory_is is.lemmas line fault wrong.1.0 wrong.1.1 is.checked.certified wrong.1.2

  refused_once : (refusal other : InductionRefusal) → IsRefusedBy one text refusal → IsRefusedBy one text other → refusal ≡ other
  refused_once proofs_too_long proofs_too_long is also = refl
  refused_once proofs_too_long (wrong_at line fault) is also = let short = also.0 in absurd (omega (arith, is, short))
  refused_once (wrong_at line fault) proofs_too_long is also = let short = is.0 in absurd (omega (arith, short, also))
  refused_once (wrong_at line fault) (wrong_at more wrong) is also =
      let same = faults_once is.1.0 is.1.1 line more fault wrong also.1.0 also.1.1 is.1.2 also.1.2 in
      (λ i. wrong_at (same.0 i) (same.1 i))

  checks_decided : IsDecided (IsReport spec one text) (IsRefusedBy one text)
  checks_decided = record { one_value = report_once; not_both = report_or_refused; one_fault = refused_once }

-- ---- The words

module _ (one_fault : FirstFaultsAreOne) (no_fault : RightOnesHaveNoFault) (met : RequirementsAreMetOnce) (open_ : MetIsNotOpen) where
  induces_determined : (i : Induced) (got : Files) → IsDetermined got (ChecksInduction i)
  induces_determined i got =
      then_determined (AcceptsNamed i.spec) (λ one. ProvesThen i.spec one i.proofs) got (named_determined i.spec got) (λ one f1 i1.
      then_determined (GetsFile i.proofs) (λ text. ReportsThen i.spec one text) got (gets_determined i.proofs got) (λ text f2 i2.
      then_determined (ChecksProofs i.spec one text) (λ report. Has (prints (print report Done))) got
      (looks_determined (IsReport i.spec one text) (IsRefusedBy one text) (induction_refused one.data_.signature) got
      (checks_decided one_fault no_fault met open_ i.spec one (accepted_data i.spec f1 one i1) text))
      (λ report f3 i3. has_determined (prints (print report Done)) got)))

  pub inductions_over_texts_are_one : (texts : Texts) (i : Induced) (one other : Comes Print Finish)
      → ComesOfPart texts (ChecksInduction i) one → ComesOfPart texts (ChecksInduction i) other → one ≡ other
  inductions_over_texts_are_one texts i one other is also =
      one_of_part texts (ChecksInduction i) (induces_determined i (got_from texts)) one other is also
