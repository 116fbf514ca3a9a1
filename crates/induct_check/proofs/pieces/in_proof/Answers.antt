use Rattle.std.proofs.Common.{reverse, refl, ap, sym}
use Rattle.induct_parts.specs.CertificateView.{covers_in}
use Rattle.induct_check.specs.CertificateReading.{in_proof_task}
use Rattle.induct_check.specs.FormView.{form_in}
use Rattle.induct_check.specs.KnownView.{known_signature}
use Rattle.induct_check.specs.NameView.{named_cases_in}
use Rattle.induct_check.proofs.OutcomeLemmas.{moved}
use Rattle.induct_check.proofs.pieces.in_proof.Goals as goal

pub returns-in-Lemma : goal.returns-in-Lemma
returns-in-Lemma c =
    let signature = known_signature c.args.known.now in
    moved signature _ _ c.variables_piece.result c.variables_piece.result
    (sym (ap (λ f. in_proof_task signature (covers_in c.args.covers.now) (named_cases_in (reverse c.args.left.now))
    (form_in f)) c.in-Lemma.is))
    refl c.variables_piece.ensures
