use Rattle.std.proofs.Common.{Ok, map, refl, ap, sym}
use Rattle.lotos_base.specs.WrittenView.{written_term_of}
use Rattle.sort_terms.specs.EquationView.{variable_of}
use Rattle.induct_check.specs.CertificateReading.{right_task}
use Rattle.induct_check.specs.FormView.{form_in}
use Rattle.induct_check.specs.KnownView.{known_signature}
use Rattle.induct_check.specs.declared.pieces.LineOutcome.TheVariants.{Nothing}
use Rattle.induct_check.proofs.OutcomeLemmas.{moved}
use Rattle.induct_check.proofs.PieceLemmas.{none_behind_left}
use Rattle.induct_check.proofs.pieces.behind_left.Goals.{in-Right, in_default}
use Rattle.induct_check.proofs.pieces.behind_left.Goals as goal

pub returns : goal.returns
returns c =
    let signature = known_signature c.args.known.now in
    elim c.match-form.branch [
      | in-Right w ↦ moved signature _ (right_task (map variable_of c.args.variables.now) (written_term_of c.args.left.now)
          (form_in c.args.form)) w.right_piece.result c.match-form.result
          (sym (ap (λ f. right_task (map variable_of c.args.variables.now) (written_term_of c.args.left.now)
          (form_in f)) w.in-Right.is)) w.result-is w.right_piece.ensures
      | in_default w ↦ moved signature (right_task (map variable_of c.args.variables.now) (written_term_of c.args.left.now)
          (form_in c.args.form)) (right_task (map variable_of c.args.variables.now) (written_term_of c.args.left.now) (form_in c.args.form))
          (Ok Nothing) c.match-form.result refl w.result-is
          (none_behind_left signature (map variable_of c.args.variables.now)
          (written_term_of c.args.left.now) c.args.form w.in_default.not-Right)
    ]
