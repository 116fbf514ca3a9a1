use Rattle.std.proofs.Common.{Ok, refl, ap, sym}
use Rattle.induct_check.specs.CertificateReading.{among_covers_task}
use Rattle.induct_check.specs.FormView.{form_in}
use Rattle.induct_check.specs.KnownView.{known_signature}
use Rattle.induct_check.specs.declared.pieces.LineOutcome.TheVariants.{Nothing}
use Rattle.induct_check.proofs.OutcomeLemmas.{moved}
use Rattle.induct_check.proofs.PieceLemmas.{none_among_covers}
use Rattle.induct_check.proofs.pieces.among_covers.Goals.{in-Cover, in-Tree, in-Lemma, in_default}
use Rattle.induct_check.proofs.pieces.among_covers.Goals as goal

pub returns : goal.returns
returns c =
    let signature = known_signature c.args.known.now in
    elim c.match-form.branch [
      | in-Cover w ↦ moved signature _ (among_covers_task (form_in c.args.form)) w.cover_piece.result c.match-form.result
          (sym (ap (λ f. among_covers_task (form_in f)) w.in-Cover.is)) w.result-is w.cover_piece.ensures
      | in-Tree w ↦ moved signature _ (among_covers_task (form_in c.args.form)) w.tree_piece.result c.match-form.result
          (sym (ap (λ f. among_covers_task (form_in f)) w.in-Tree.is)) w.result-is w.tree_piece.ensures
      | in-Lemma w ↦ moved signature _ (among_covers_task (form_in c.args.form)) w.variables_piece.result c.match-form.result
          (sym (ap (λ f. among_covers_task (form_in f)) w.in-Lemma.is)) w.result-is w.variables_piece.ensures
      | in_default w ↦ moved signature (among_covers_task (form_in c.args.form)) (among_covers_task (form_in c.args.form))
          (Ok Nothing) c.match-form.result refl w.result-is
          (none_among_covers signature c.args.form w.in_default.not-Cover w.in_default.not-Tree w.in_default.not-Lemma)
    ]
