use Rattle.std.proofs.Common.{length, map, sym, ap, ◌∙◌, arith}
use Rattle.std.proofs.lemmas.List.{length-map}
use Rattle.lotos_base.specs.Equation.{Data, HasSortedSides}
use Rattle.lotos_base.specs.Term.{Term}
use Rattle.behaviour_semantics.specs.Behaviour.{stop}
use Rattle.certificate_theory.specs.Certificate.{CertificateFault, refused}
use Rattle.certificate_theory.specs.Checking.{CertificateComesTo}
use Rattle.certificate_theory.specs.MatchedPairs.{AllPairsAreMatched, PairsFail}
use Rattle.certificate_theory.specs.NamedStates.{LinesFail}
use Rattle.menu_builder.proofs.HandedOn.{held_before, holds_after}
use Rattle.bisim_check.specs.Faults.{TellsPairs}
use Rattle.bisim_check.specs.LineView.{line_of}
use Rattle.bisim_check.specs.Readings.{comparison_of, pair_among, listed_pairs_in, reading_of, IsKeptReading}
use Rattle.bisim_check.specs.Surveys.{IsSideOf}
use Rattle.bisim_check.proofs.DataLemmas.{never}
use Rattle.bisim_check.proofs.ReadingLemmas.{few_pairs}
use Rattle.lotos_base.proofs.Options.{gave_up}
use Rattle.bisim_check.proofs.StartLemmas.{line_fails, no_starts, pair_fails, all_fits}
use Rattle.bisim_check.proofs.SurveyLemmas.{told}
use Rattle.bisim_check.proofs.checking.follow.Goals as goal

pub returns-in_err-read_lines-clause-comes_to : goal.returns-in_err-read_lines-clause-comes_to
returns-in_err-read_lines-clause-comes_to g c = λ b d is.
    let compared = comparison_of (g.D.Deciding.known_data c.args.data.now) (g.D.Deciding.canon c.args.data.now)
    c.args.left.now.spec.now c.args.right.now.spec.now b d in
    let lines = map line_of c.args.lines.now in
    gave_up _ (TellsPairs (λ (f : CertificateFault). CertificateComesTo compared lines (refused f))) c.from_residual.result
    c.in_err-read_lines.field-0.0 c.from_residual.ensures.1
    (told (LinesFail compared (reading_of c.args.reading.now) 1 lines)
    (λ (f : CertificateFault). CertificateComesTo compared lines (refused f)) c.in_err-read_lines.field-0.0
    (line_fails compared lines (reading_of c.args.reading.now) is) (c.in_err-read_lines.ensures.read b d))

pub returns-then-not-lists_the_starts-clause-comes_to : goal.returns-then-not-lists_the_starts-clause-comes_to
returns-then-not-lists_the_starts-clause-comes_to g c = λ b d is.
    no_starts (comparison_of (g.D.Deciding.known_data c.args.data.now) (g.D.Deciding.canon c.args.data.now)
    c.args.left.now.spec.now c.args.right.now.spec.now b d) (map line_of c.args.lines.now) (reading_of c.args.reading.now) is
    (reading_of c.read_lines.new.reading) (c.in_ok-read_lines.ensures.read b d)
    (λ s. never (sym c.if-not-lists_the_starts.true ∙ c.lists_the_starts.ensures.1 s))

pub check_listed-requires-clause-left : goal.check_listed-requires-clause-left
check_listed-requires-clause-left g c =
    holds_after (λ (d : Data) (k : Term → Term). IsSideOf d.signature c.args.left.now.spec.now)
    c.in_ok-read_lines.ensures.same_known c.requires.left

pub check_listed-requires-clause-right : goal.check_listed-requires-clause-right
check_listed-requires-clause-right g c =
    holds_after (λ (d : Data) (k : Term → Term). IsSideOf d.signature c.args.right.now.spec.now)
    c.in_ok-read_lines.ensures.same_known c.requires.right

pub check_listed-requires-clause-kept : goal.check_listed-requires-clause-kept
check_listed-requires-clause-kept g c =
    holds_after (λ (d : Data) (k : Term → Term). IsKeptReading d k c.args.left.now.spec.now c.args.right.now.spec.now
    c.read_lines.new.reading) c.in_ok-read_lines.ensures.same_known c.in_ok-read_lines.ensures.kept_after

pub check_listed-requires-clause-sides : goal.check_listed-requires-clause-sides
check_listed-requires-clause-sides g c =
    holds_after (λ (d : Data) (k : Term → Term). HasSortedSides d) c.in_ok-read_lines.ensures.same_known c.requires.sides

pub returns-in_err-check_listed-clause-comes_to : goal.returns-in_err-check_listed-clause-comes_to
returns-in_err-check_listed-clause-comes_to g c = λ b d is.
    let compared = comparison_of (g.D.Deciding.known_data c.args.data.now) (g.D.Deciding.canon c.args.data.now)
    c.args.left.now.spec.now c.args.right.now.spec.now b d in
    let lines = map line_of c.args.lines.now in
    let reading = c.read_lines.new.reading in
    gave_up _ (TellsPairs (λ (f : CertificateFault). CertificateComesTo compared lines (refused f)))
    c.from_residual-in_err-check_listed.result c.in_err-check_listed.field-0.0 c.from_residual-in_err-check_listed.ensures.1
    (told (PairsFail compared (listed_pairs_in reading)) (λ (f : CertificateFault). CertificateComesTo compared lines (refused f))
    c.in_err-check_listed.field-0.0
    (pair_fails compared lines (reading_of c.args.reading.now) is (reading_of reading) (c.in_ok-read_lines.ensures.read b d)
    (c.lists_the_starts.ensures.0 c.if-not-lists_the_starts.false))
    (held_before (λ (e : Data) (k : Term → Term). TellsPairs (PairsFail (comparison_of e k c.args.left.now.spec.now
    c.args.right.now.spec.now b d) (listed_pairs_in reading)) c.in_err-check_listed.field-0.0) c.in_ok-read_lines.ensures.same_known
    (c.in_err-check_listed.ensures.matched b d)))

pub overflow_cast-result : goal.overflow_cast-result
overflow_cast-result g c =
    let compared = comparison_of (g.D.Deciding.known_data c.args.data.now) (g.D.Deciding.canon c.args.data.now)
    c.args.left.now.spec.now c.args.right.now.spec.now stop stop in
    let old = c.args.reading.now in
    let new = c.read_lines.new.reading in
    omega (
      arith,
      few_pairs compared (map line_of c.args.lines.now) (reading_of old) (reading_of new) 1
          (c.in_ok-read_lines.ensures.read stop stop),
      length-map old.pairs.items (pair_among old.lefts.items old.rights.items),
      length-map new.pairs.items (pair_among new.lefts.items new.rights.items),
      length-map c.args.lines.now line_of,
      ap length c.requires.none,
      c.requires.few,
      c.len.ensures,
      new.pairs.ok.0,
    )

pub returns-clause-comes_to : goal.returns-clause-comes_to
returns-clause-comes_to g c = λ b d is.
    let reading = c.read_lines.new.reading in
    all_fits (comparison_of (g.D.Deciding.known_data c.args.data.now) (g.D.Deciding.canon c.args.data.now) c.args.left.now.spec.now
    c.args.right.now.spec.now b d) (map line_of c.args.lines.now) (reading_of c.args.reading.now) is (reading_of reading) _
    (c.in_ok-read_lines.ensures.read b d) (c.lists_the_starts.ensures.0 c.if-not-lists_the_starts.false)
    (held_before (λ (e : Data) (k : Term → Term). AllPairsAreMatched (comparison_of e k c.args.left.now.spec.now
    c.args.right.now.spec.now b d) (listed_pairs_in reading)) c.in_ok-read_lines.ensures.same_known
    (c.in_ok-check_listed.ensures.matched b d))
    (c.len.ensures ∙ (reading.pairs.ok.0
    ∙ sym (length-map reading.pairs.items (pair_among reading.lefts.items reading.rights.items))))
