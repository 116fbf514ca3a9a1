-- What is printed where a certificate of induction is checked.
use Rattle.std.proofs.Common.{◌≡◌, ◌<◌, ◌≤◌, ◌+◌, ℕ, List, [], ◌∷◌, ◌++◌, length, map, drop, get_or, codes, decimal, Option, None, Some, refl, sym, ap, ◌∙◌, subst}
use Rattle.std.specs.Prelude.{Result, Ok, Err, IfOk, MatchOption}
use Rattle.std.proofs.lemmas.List.{length-map, append_assoc, append-nil, drop_more, drop_all}
use Rattle.lotos_base.proofs.Pieces.{two_pieces}
use Rattle.lotos_base.specs.Limits.{text_limit}
use Rattle.lotos_base.specs.Name.{spelling}
use Rattle.lotos_base.specs.Signature.{Signature}
use Rattle.lotos_base.specs.Equation.{Equation as PlainEquation}
use Rattle.sort_terms.specs.EquationView.{equation_of}
use Rattle.induct_check.specs.BookView.{book_theory}
use Rattle.induct_check.specs.CheckView.{IsCertifiedText}
use Rattle.induct_check.specs.FaultTexts.{IsTold}
use Rattle.induct_check.specs.TextFaults.{IsTextFault}
use Rattle.induct_check.specs.HandedOn.{IsMetBy, IsLeftOpen, Theory, Lemma, bad_line, no_variable, no_cover, no_tree, not_reducible, bad_use, not_same, AllLemmasHold, HoldsAtLine, lemmas_in, AtLine, LineFault, StatedLemma, HoldsOfLineFault, statement_of}
use Rattle.induct_check.specs.HandedOn.line_faults as fault
use Rattle.command_words.specs.HandedOn.{Acceptance, ShelfState, TextNames, place_text, book_chooses, rules_in, precedence_in, goes_on, Has}
use Rattle.command_words.specs.HandedOn.{HoldsRequired, HoldsWithRequirements, Required, WithRequirements}
use Rattle.command_words.proofs.HandedOn.{did_then, has_done, looked}
use Rattle.lotos_base.specs.declared.faults.NoMemory.{NoMemory as CodeNoMemory}
use Rattle.sort_terms.specs.declared.equations.Equation.{Equation}
use Rattle.certificate_verbs.specs.Finishing.{Print, print, prints}
use Rattle.certificate_verbs.specs.Inducing.{IsTheoryOf, HasAnswer, answer_text, requirement_line, AreLines, certified_counts_text, IsReport, InductionRefusal, proofs_too_long, wrong_at, IsRefusedBy, induction_refusal_text, induction_refused, ChecksProofs, ReportsThen}
use Rattle.certificate_verbs.specs.Printed.{IsReportAlone, IsPrinted, PartCame}
use Rattle.certificate_verbs.specs.declared.ended.Ended.TheVariants.{Done, CertificateRefused}
use Rattle.certificate_verbs.specs.declared.printing.Alone.{Alone}
use Rattle.certificate_verbs.proofs.ComparingLemmas.{IsAnswered, answered, printed_stop, look_stops, look_wants}
use Rattle.certificate_verbs.proofs.PrintedLemmas.{print_is}

-- what the book of what was accepted is
pub theory_there : (first : Acceptance) (one : WithRequirements) → HoldsWithRequirements first one
    → IsTheoryOf first (book_theory one.accepted.book)
theory_there first one h = record {
  precedence = precedence_in one.accepted.book.joined.rules;
  rules = rules_in one.accepted.book.joined.rules;
  data_is = h.holds.data_is;
  opened = h.holds.opened;
  rules_are = refl;
  canonical = book_chooses one.accepted.book;
}

module _ (spec : List ℕ) (first : Acceptance) (now : ShelfState) (text : List ℕ) (answer : Result Alone CodeNoMemory) where
  wanting : PartCame (ReportsThen spec first text) now now
  wanting =
      look_wants now (IsReport spec first text) (IsRefusedBy first text) (induction_refused first.data_.signature)
      (λ report. Has (prints (print report Done)))

  -- it is refused
  proofs_stop : (refusal : InductionRefusal) → IsRefusedBy first text refusal
      → IfOk answer (λ (alone : Alone). (alone.text.items ≡ induction_refusal_text first.data_.signature refusal)
      × (alone.ended ≡ CertificateRefused))
      → IsAnswered (ReportsThen spec first text) now now answer
  proofs_stop refusal is made =
      answered (ReportsThen spec first text) now now _ answer made
      (λ alone a. printed_stop now now (ChecksProofs spec first text) (λ report. Has (prints (print report Done)))
      (induction_refused first.data_.signature refusal) alone
      (look_stops now (IsReport spec first text) (IsRefusedBy first text) (induction_refused first.data_.signature) refusal is)
      (print_is alone (induction_refusal_text first.data_.signature refusal) CertificateRefused a.0 a.1))
      wanting

  pub proofs_long : text_limit < length text
      → IfOk answer (λ (alone : Alone). (alone.text.items ≡ induction_refusal_text first.data_.signature proofs_too_long)
      × (alone.ended ≡ CertificateRefused))
      → IsAnswered (ReportsThen spec first text) now now answer
  proofs_long long made = proofs_stop proofs_too_long long made

  module _ (theory : Theory) (short : length text ≤ text_limit) (theory_is : IsTheoryOf first theory) where
    fault_by : (line : ℕ) (f : LineFault) → HoldsOfLineFault (IsTextFault theory text line) f
        → IfOk answer (λ (alone : Alone). IsTold first.data_.signature line f alone.text.items × (alone.ended ≡ CertificateRefused))
        → IsAnswered (ReportsThen spec first text) now now answer
    fault_by line fault.BadLine wrong made = proofs_stop (wrong_at line bad_line) (short, (theory, theory_is, wrong)) made
    fault_by line fault.NoVariable wrong made = proofs_stop (wrong_at line no_variable) (short, (theory, theory_is, wrong)) made
    fault_by line fault.NoCover wrong made = proofs_stop (wrong_at line no_cover) (short, (theory, theory_is, wrong)) made
    fault_by line (fault.NoTree f) wrong made = proofs_stop (wrong_at line (no_tree f)) (short, (theory, theory_is, wrong)) made
    fault_by line fault.NotReducible wrong made = proofs_stop (wrong_at line not_reducible) (short, (theory, theory_is, wrong)) made
    fault_by line fault.BadUse wrong made = proofs_stop (wrong_at line bad_use) (short, (theory, theory_is, wrong)) made
    fault_by line (fault.NotSame statement) wrong made =
        proofs_stop (wrong_at line (not_same (statement_of statement))) (short, (theory, theory_is, wrong)) made
    fault_by line fault.NoMemory wrong made =
        answered (ReportsThen spec first text) now now _ answer made (λ alone a. absurd a.0) wanting

    pub fault_told : (at : AtLine) (signature : Signature) → signature ≡ first.data_.signature
        → HoldsAtLine (IsTextFault theory text) at
        → IfOk answer (λ (alone : Alone). IsTold signature at.line at.fault alone.text.items × (alone.ended ≡ CertificateRefused))
        → IsAnswered (ReportsThen spec first text) now now answer
    fault_told at signature same wrong made =
        fault_by at.line at.fault wrong
        (subst (λ (s : Signature). IfOk answer (λ (alone : Alone). IsTold s at.line at.fault alone.text.items
        × (alone.ended ≡ CertificateRefused))) same made)

    -- it is right
    module _ (required : Required) (holds : HoldsRequired first.types first.libraries required) (lemmas : List StatedLemma)
        (certified : IsCertifiedText theory text (lemmas_in lemmas)) (hold : AllLemmasHold theory.data_ (lemmas_in lemmas)) where
      report_there : (alone : Alone) → IsReportAlone spec required lemmas alone → IsReport spec first text alone.text.items
      report_there alone is = record {
        short = short;
        lemmas = lemmas_in lemmas;
        checked = record { theory = theory; theory_is = theory_is; certified = certified; hold = hold };
        requirements = map equation_of required.equations.items;
        required = holds.requirements;
        lines = is.lines;
        answered = subst (λ (ls : List (List ℕ)). AreLines (record { spec = spec; order = []; libraries = ls }) (lemmas_in lemmas)
            (map equation_of required.equations.items) is.lines) holds.libraries is.answered;
        report_is = is.text_is ∙ (λ i. certified_counts_text (few i) (many i) ++ is.lines);
      }
        where
          few : length lemmas ≡ length (lemmas_in lemmas)
          few = sym (length-map lemmas _)

          many : length required.equations.items ≡ length (map equation_of required.equations.items)
          many = sym (length-map required.equations.items _)

      report_printed : (alone : Alone) → IsReportAlone spec required lemmas alone
          → IsPrinted (ReportsThen spec first text) now now alone
      report_printed alone is = (
        goes_on (prints (print alone.text.items Done)),
        did_then now now now (ChecksProofs spec first text) (λ report. Has (prints (print report Done))) alone.text.items
            (goes_on (prints (print alone.text.items Done)))
            (looked now (IsReport spec first text) (IsRefusedBy first text) (induction_refused first.data_.signature) alone.text.items
            (report_there alone is))
            (has_done Print now (prints (print alone.text.items Done))),
        ap (λ (it : Print). Some it) (sym (print_is alone alone.text.items Done refl is.ended_is)),
      )

      pub report_yes : IfOk answer (IsReportAlone spec required lemmas) → IsAnswered (ReportsThen spec first text) now now answer
      report_yes made =
          answered (ReportsThen spec first text) now now (IsReportAlone spec required lemmas) answer made report_printed wanting

-- ---- Lines

-- the lines so far, with those that are left, are those of all requirements
abbrev pub LinesSoFar : (names : TextNames) (lemmas : List Lemma) (all rest : List PlainEquation) (before so_far : List ℕ) → Type 0
LinesSoFar names lemmas all rest before so_far = (later : List ℕ) → AreLines names lemmas rest later
    → (lines : List ℕ) × AreLines names lemmas all lines × (so_far ++ later ≡ before ++ lines)

pub lines_begin : (names : TextNames) (lemmas : List Lemma) (all : List PlainEquation) (before : List ℕ)
    → LinesSoFar names lemmas all all before before
lines_begin names lemmas all before = λ later are. (later, are, refl)

pub lines_more : (names : TextNames) (lemmas : List Lemma) (all rest : List PlainEquation) (before so_far next : List ℕ)
    (equation : PlainEquation) → LinesSoFar names lemmas all (equation ∷ rest) before so_far
    → (answer : Option ℕ) × HasAnswer lemmas equation answer × (next ≡ so_far ++ requirement_line names equation answer)
    → LinesSoFar names lemmas all rest before next
lines_more names lemmas all rest before so_far next equation so line = λ later are.
    let whole = so (requirement_line names equation line.0 ++ later) (line.0, later, line.1, are, refl) in (
      whole.0,
      whole.1,
      ap (λ (t : List ℕ). t ++ later) line.2
          ∙ append_assoc so_far (requirement_line names equation line.0) later
          ∙ whole.2,
    )

pub lines_all : (names : TextNames) (lemmas : List Lemma) (all : List PlainEquation) (before so_far : List ℕ)
    → LinesSoFar names lemmas all [] before so_far
    → (lines : List ℕ) × AreLines names lemmas all lines × (so_far ≡ before ++ lines)
lines_all names lemmas all before so_far so =
    let whole = so [] refl in (whole.0, whole.1, sym (append-nil so_far) ∙ whole.2)

-- the member at an index, and those behind it
pub at_index : (names : TextNames) (lemmas : List Lemma) (equations : List Equation) (i : ℕ) (equation : Equation)
    (before so_far : List ℕ) → i < length equations → equation ≡ get_or equations i equation
    → LinesSoFar names lemmas (map equation_of equations) (map equation_of (drop i equations)) before so_far
    → LinesSoFar names lemmas (map equation_of equations) (equation_of equation ∷ map equation_of (drop (i + 1) equations)) before so_far
at_index names lemmas equations i equation before so_far within is so =
    let here : drop i equations ≡ equation ∷ drop (i + 1) equations =
    drop_more equations i equation within ∙ (λ j. sym is j ∷ drop (i + 1) equations) in
    subst (λ (rest : List Equation). LinesSoFar names lemmas (map equation_of equations) (map equation_of rest) before so_far) here so

pub at_end : (names : TextNames) (lemmas : List Lemma) (equations : List Equation) (i : ℕ) (before so_far : List ℕ)
    → length equations ≤ i
    → LinesSoFar names lemmas (map equation_of equations) (map equation_of (drop i equations)) before so_far
    → LinesSoFar names lemmas (map equation_of equations) [] before so_far
at_end names lemmas equations i before so_far past so =
    subst (λ (rest : List Equation). LinesSoFar names lemmas (map equation_of equations) (map equation_of rest) before so_far)
    (drop_all i equations past) so

-- ---- A line

pub has_answer : (lemmas : List Lemma) (equation : PlainEquation) (answer : Option ℕ)
    → MatchOption answer (IsLeftOpen lemmas equation) (IsMetBy lemmas equation) → HasAnswer lemmas equation answer
has_answer lemmas equation None is = is
has_answer lemmas equation (Some k) is = is

pub line_there : (names : TextNames) (lemmas : List Lemma) (equation : PlainEquation) (answer : Option ℕ) (before between after : List ℕ)
    → HasAnswer lemmas equation answer → between ≡ before ++ place_text names equation.place
    → after ≡ between ++ answer_text answer
    → (a : Option ℕ) × HasAnswer lemmas equation a × (after ≡ before ++ requirement_line names equation a)
line_there names lemmas equation answer before between after is placed answered_ = (
  answer,
  is,
  answered_
      ∙ ap (λ (t : List ℕ). t ++ answer_text answer) placed
      ∙ append_assoc before (place_text names equation.place) (answer_text answer),
)

-- the two counts, part by part
pub counts_written : (s0 s1 s2 s3 s4 s5 : List ℕ) (lemmas requirements : ℕ) → s1 ≡ s0 ++ codes "certified " → s2 ≡ s1 ++ decimal lemmas
    → s3 ≡ s2 ++ codes " lemmas\nrequirements " → s4 ≡ s3 ++ decimal requirements → s5 ≡ s4 ++ codes "\n"
    → s5 ≡ s0 ++ certified_counts_text lemmas requirements
counts_written s0 s1 s2 s3 s4 s5 lemmas requirements e1 e2 e3 e4 e5 =
    two_pieces s0 s4 s5 _ (codes "\n")
    (two_pieces s0 s3 s4 _ (decimal requirements)
    (two_pieces s0 s2 s3 _ (codes " lemmas\nrequirements ")
    (two_pieces s0 s1 s2 (codes "certified ") (decimal lemmas) e1 e2) e3) e4) e5

-- the whole report
pub report_made : (spec : List ℕ) (required : Required) (lemmas : List StatedLemma) (names : TextNames) (alone : Alone)
    (m q : ℕ) (before between : List ℕ) → names ≡ record { spec = spec; order = []; libraries = map spelling required.libraries.items }
    → m ≡ length lemmas → q ≡ length required.equations.items → before ≡ [] → between ≡ before ++ certified_counts_text m q
    → (lines : List ℕ) × AreLines names (lemmas_in lemmas) (map equation_of required.equations.items) lines
    × (alone.text.items ≡ between ++ lines)
    → alone.ended ≡ Done → IsReportAlone spec required lemmas alone
report_made spec required lemmas names alone m q before between named few many none counts made ended = record {
  lines = made.0;
  answered = subst (λ (it : TextNames). AreLines it (lemmas_in lemmas) (map equation_of required.equations.items) made.0) named made.1;
  text_is = made.2
      ∙ ap (λ (t : List ℕ). t ++ made.0)
      (counts ∙ (λ i. none i ++ certified_counts_text (few i) (many i)));
  ended_is = ended;
}
