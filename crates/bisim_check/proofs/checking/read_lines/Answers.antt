use Rattle.std.proofs.Common.{◌≡◌, ◌+◌, suc, ℕ, List, ◌∷◌, map, drop, get_or, refl, ap, sym, ◌∙◌, subst, arith, add-one}
use Rattle.std.proofs.lemmas.List.{drop_all, length-map}
use Rattle.lotos_base.proofs.Members.{at_map}
use Rattle.lotos_base.specs.Equation.{Data}
use Rattle.lotos_base.specs.Term.{Term}
use Rattle.certificate_theory.specs.Certificate.{CertificateLine}
use Rattle.certificate_theory.specs.NamedStates.{LineIsRead, LineFails, LinesAreRead, all_read, LinesFail}
use Rattle.menu_builder.proofs.HandedOn.{held_before, holds_after, keeps_both, keeps_itself}
use Rattle.bisim_check.specs.Faults.{TellsPairs}
use Rattle.bisim_check.specs.LineView.{line_of}
use Rattle.bisim_check.specs.Readings.{comparison_of, reading_of, IsKeptReading}
use Rattle.bisim_check.specs.Surveys.{IsSideOf}
use Rattle.bisim_check.specs.declared.lines.PairLine.TheVariants.{Left}
use Rattle.bisim_check.proofs.AnswerLemmas.{drop_at, place_given}
use Rattle.bisim_check.proofs.ReadingLemmas.{read_on, fail_on, fail_now}
use Rattle.lotos_base.proofs.Options.{gave_up}
use Rattle.bisim_check.proofs.SurveyLemmas.{told}
use Rattle.bisim_check.proofs.checking.read_lines.Goals as goal

pub loop-line-init : goal.loop-line-init
loop-line-init g c = record {
  read = λ b d last h. h;
  fails = λ b d f h. h;
  kept = c.requires.kept;
  counted = refl;
  same_known = keeps_itself;
}

pub read_line-requires-clause-left : goal.read_line-requires-clause-left
read_line-requires-clause-left g c =
    holds_after (λ (d : Data) (k : Term → Term). IsSideOf d.signature c.args.left.now.spec.now) c.loop-line.invariant.same_known
    c.requires.left

pub read_line-requires-clause-right : goal.read_line-requires-clause-right
read_line-requires-clause-right g c =
    holds_after (λ (d : Data) (k : Term → Term). IsSideOf d.signature c.args.right.now.spec.now) c.loop-line.invariant.same_known
    c.requires.right

pub read_line-requires-clause-kept : goal.read_line-requires-clause-kept
read_line-requires-clause-kept g c =
    holds_after (λ (d : Data) (k : Term → Term). IsKeptReading d k c.args.left.now.spec.now c.args.right.now.spec.now c.loop-line.reading)
    c.loop-line.invariant.same_known c.loop-line.invariant.kept

pub returns-in_err-read_line-clause-read : goal.returns-in_err-read_line-clause-read
returns-in_err-read_line-clause-read g c = λ b d.
    let compared = comparison_of (g.D.Deciding.known_data c.args.data.now) (g.D.Deciding.canon c.args.data.now)
    c.args.left.now.spec.now c.args.right.now.spec.now b d in
    let lines = map line_of c.args.lines.now in
    let i = c.loop-line.line-index in
    let item = get_or c.args.lines.now i (Left 0 0) in
    let line = line_of item in
    let now = reading_of c.loop-line.reading in
    let number : c.loop-line.number + 1 ≡ suc i = add-one c.loop-line.number ∙ ap (λ (n : ℕ). suc n) c.loop-line.invariant.counted in
    gave_up _ (TellsPairs (LinesFail compared (reading_of c.args.reading.now) 1 lines)) c.from_residual.result
    c.in_err-read_line.field-0.0 c.from_residual.ensures.1
    (told (LineFails compared now (c.loop-line.number + 1) line) (LinesFail compared (reading_of c.args.reading.now) 1 lines)
    c.in_err-read_line.field-0.0
    (λ f h. c.loop-line.invariant.fails b d f
    (fail_now compared (drop i lines) line (drop (i + 1) lines) (suc i) now f
    (drop_at lines i line (at_map line_of c.args.lines.now i item (place_given c.args.lines.now i (Left 0 0) c.loop-line-test.true)))
    (subst (λ (n : ℕ). LineFails compared now n line f) number h)))
    (held_before (λ (e : Data) (k : Term → Term). TellsPairs (LineFails (comparison_of e k c.args.left.now.spec.now
    c.args.right.now.spec.now b d) now (c.loop-line.number + 1) line) c.in_err-read_line.field-0.0) c.loop-line.invariant.same_known
    (c.in_err-read_line.ensures.read b d)))

pub loop-line-preserved : goal.loop-line-preserved
loop-line-preserved g c =
    let known = g.D.Deciding.known_data c.args.data.now in
    let canon = g.D.Deciding.canon c.args.data.now in
    let left = c.args.left.now.spec.now in
    let right = c.args.right.now.spec.now in
    let lines = map line_of c.args.lines.now in
    let i = c.loop-line.line-index in
    let item = get_or c.args.lines.now i (Left 0 0) in
    let line = line_of item in
    let now = reading_of c.loop-line.reading in
    let next = reading_of c.read_line.new.reading in
    let same = c.loop-line.invariant.same_known in
    let number : c.loop-line.number + 1 ≡ suc i = add-one c.loop-line.number ∙ ap (λ (n : ℕ). suc n) c.loop-line.invariant.counted in
    let cut : drop i lines ≡ line ∷ drop (i + 1) lines =
    drop_at lines i line (at_map line_of c.args.lines.now i item (place_given c.args.lines.now i (Left 0 0) c.loop-line-test.true)) in
    record {
      read = λ b d last more.
          let compared = comparison_of known canon left right b d in
          c.loop-line.invariant.read b d last
          (read_on compared (drop i lines) line (drop (i + 1) lines) (suc i) now next last cut
          (subst (λ (n : ℕ). LineIsRead compared now n line next) number
          (held_before (λ (e : Data) (k : Term → Term). LineIsRead (comparison_of e k left right b d) now (c.loop-line.number + 1) line
          next) same (c.in_ok-read_line.ensures.read b d)))
          (subst (λ (n : ℕ). LinesAreRead compared next (suc n) (drop (i + 1) lines) last) (add-one i) more));
      fails = λ b d f more.
          let compared = comparison_of known canon left right b d in
          c.loop-line.invariant.fails b d f
          (fail_on compared (drop i lines) line (drop (i + 1) lines) (suc i) now next f cut
          (subst (λ (n : ℕ). LineIsRead compared now n line next) number
          (held_before (λ (e : Data) (k : Term → Term). LineIsRead (comparison_of e k left right b d) now (c.loop-line.number + 1) line
          next) same (c.in_ok-read_line.ensures.read b d)))
          (subst (λ (n : ℕ). LinesFail compared next (suc n) (drop (i + 1) lines) f) (add-one i) more));
      kept = held_before (λ (e : Data) (k : Term → Term). IsKeptReading e k left right c.read_line.new.reading) same
          c.in_ok-read_line.ensures.kept_after;
      counted = ap (λ (n : ℕ). n + 1) c.loop-line.invariant.counted;
      same_known = keeps_both same c.in_ok-read_line.ensures.same_known;
    }

pub returns-clause-read : goal.returns-clause-read
returns-clause-read g c = λ b d.
    let compared = comparison_of (g.D.Deciding.known_data c.args.data.now) (g.D.Deciding.canon c.args.data.now)
    c.args.left.now.spec.now c.args.right.now.spec.now b d in
    let lines = map line_of c.args.lines.now in
    let i = c.loop-line.line-index in
    let last = reading_of c.loop-line.reading in
    c.loop-line.invariant.read b d last
    (subst (λ (it : List CertificateLine). LinesAreRead compared last (suc i) it last)
    (sym (drop_all i lines (omega (arith, length-map c.args.lines.now line_of)))) all_read)
