use Rattle.std.proofs.Common.{◌≡◌, suc, drop, map}
use Rattle.behaviour_semantics.specs.Behaviour.{Behaviour}
use Rattle.certificate_theory.specs.Certificate.{CertificateFault, Reading as PlainReading}
use Rattle.certificate_theory.specs.NamedStates.{LinesAreRead, LinesFail}
use Rattle.menu_builder.specs.HandedOn.{KeepsData}
use Rattle.bisim_check.specs.LineView.{line_of}
use Rattle.bisim_check.specs.Readings.{comparison_of, reading_of, IsKeptReading}
use Rattle.bisim_check.proofs.checking.read_lines.Given as goal

abbrev pub invariant-loop-line : goal.invariant-loop-line
invariant-loop-line g l =
    let known = g.D.Deciding.known_data l.fn.data in
    let canon = g.D.Deciding.canon l.fn.data in
    record {
      read : (b c : Behaviour) (last : PlainReading) → LinesAreRead (comparison_of known canon l.left.spec.now l.right.spec.now b c)
          (reading_of l.reading) (suc l.line-index) (drop l.line-index (map line_of l.lines)) last
          → LinesAreRead (comparison_of known canon l.left.spec.now l.right.spec.now b c) (reading_of l.fn.reading) 1
          (map line_of l.lines) last;
      fails : (b c : Behaviour) (f : CertificateFault) → LinesFail (comparison_of known canon l.left.spec.now l.right.spec.now b c)
          (reading_of l.reading) (suc l.line-index) (drop l.line-index (map line_of l.lines)) f
          → LinesFail (comparison_of known canon l.left.spec.now l.right.spec.now b c) (reading_of l.fn.reading) 1
          (map line_of l.lines) f;
      kept : IsKeptReading known canon l.left.spec.now l.right.spec.now l.reading;
      counted : l.number ≡ l.line-index;
      same_known : KeepsData g.D.Deciding.known_data g.D.Deciding.canon l.fn.data l.data;
    }
