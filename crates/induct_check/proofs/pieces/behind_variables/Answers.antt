use Rattle.std.proofs.Common.{Ok, map, refl, ap, sym}
use Rattle.sort_terms.specs.EquationView.{variable_of}
use Rattle.induct_check.specs.CertificateReading.{left_task}
use Rattle.induct_check.specs.FormView.{form_in}
use Rattle.induct_check.specs.KnownView.{known_signature}
use Rattle.induct_check.specs.declared.pieces.LineOutcome.TheVariants.{Nothing}
use Rattle.induct_check.proofs.OutcomeLemmas.{moved}
use Rattle.induct_check.proofs.PieceLemmas.{none_behind_variables}
use Rattle.induct_check.proofs.pieces.behind_variables.Goals.{in-Left, in_default}
use Rattle.induct_check.proofs.pieces.behind_variables.Goals as goal

pub returns : goal.returns
returns c =
    let signature = known_signature c.args.known.now in
    elim c.match-form.branch [
      | in-Left w ↦ moved signature _ (left_task (map variable_of c.args.variables.now)
          (form_in c.args.form)) w.left_piece.result c.match-form.result
          (sym (ap (λ f. left_task (map variable_of c.args.variables.now) (form_in f)) w.in-Left.is)) w.result-is w.left_piece.ensures
      | in_default w ↦ moved signature (left_task (map variable_of c.args.variables.now) (form_in c.args.form)) (left_task
          (map variable_of c.args.variables.now) (form_in c.args.form)) (Ok Nothing) c.match-form.result refl w.result-is
          (none_behind_variables signature (map variable_of c.args.variables.now) c.args.form w.in_default.not-Left)
    ]
