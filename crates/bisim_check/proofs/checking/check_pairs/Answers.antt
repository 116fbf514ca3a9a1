use Rattle.std.proofs.Common.{MatchResult, map}
use Rattle.lotos_base.specs.Equation.{Data, HasSortedSides}
use Rattle.lotos_base.specs.Term.{Term}
use Rattle.behaviour_tree.specs.StateView.{state_of}
use Rattle.certificate_theory.specs.Certificate.{CertificateFault, accepted, refused}
use Rattle.certificate_theory.specs.Checking.{CertificateComesTo}
use Rattle.menu_builder.proofs.HandedOn.{held_before, holds_after}
use Rattle.std.specs.Prelude.{ℕ}
use Rattle.bisim_check.specs.Faults.{TellsPairs}
use Rattle.bisim_check.specs.LineView.{line_of}
use Rattle.bisim_check.specs.Readings.{comparison_of, IsKeptReading}
use Rattle.bisim_check.specs.Surveys.{IsSideOf}
use Rattle.bisim_check.proofs.checking.check_pairs.Goals as goal

pub follow-requires-clause-left : goal.follow-requires-clause-left
follow-requires-clause-left g c =
    holds_after (λ (d : Data) (k : Term → Term). IsSideOf d.signature c.args.left.now) c.in_ok-reading.ensures.same_known c.requires.left

pub follow-requires-clause-right : goal.follow-requires-clause-right
follow-requires-clause-right g c =
    holds_after (λ (d : Data) (k : Term → Term). IsSideOf d.signature c.args.right.now) c.in_ok-reading.ensures.same_known
    c.requires.right

pub follow-requires-clause-kept : goal.follow-requires-clause-kept
follow-requires-clause-kept g c =
    holds_after (λ (d : Data) (k : Term → Term). IsKeptReading d k c.args.left.now c.args.right.now c.in_ok-reading.reading)
    c.in_ok-reading.ensures.same_known c.in_ok-reading.ensures.kept

pub follow-requires-clause-sides : goal.follow-requires-clause-sides
follow-requires-clause-sides g c =
    holds_after (λ (d : Data) (k : Term → Term). HasSortedSides d) c.in_ok-reading.ensures.same_known c.requires.sides

pub returns-clause-comes_to : goal.returns-clause-comes_to
returns-clause-comes_to g c =
    let start = state_of c.args.left_start.now in
    let other_start = state_of c.args.right_start.now in
    let lines = map line_of c.args.lines.now in
    held_before (λ (d : Data) (k : Term → Term). MatchResult c.follow.result
    (λ (number : ℕ). CertificateComesTo (comparison_of d k c.args.left.now c.args.right.now start other_start) lines (accepted number))
    (TellsPairs (λ (f : CertificateFault). CertificateComesTo (comparison_of d k c.args.left.now c.args.right.now start other_start)
    lines (refused f)))) c.in_ok-reading.ensures.same_known
    (c.follow.ensures.comes_to start other_start c.in_ok-reading.ensures.begins)
