use Rattle.std.proofs.Common.{sym, subst}
use Rattle.std.proofs.lemmas.Result.{IfOk-weaker}
use Rattle.certificate_verbs.specs.HandedOn.{NotAccepted}
use Rattle.lotos_top.specs.Prepared.{NamesNoFile}
use Rattle.lotos_top.proofs.opening.refused_demonstration.Goals as goal

pub returns-in-Spec : goal.returns-in-Spec
returns-in-Spec c =
    IfOk-weaker c.failed_alone.result _ _
    (λ alone printed. (subst (λ (f : NotAccepted). NamesNoFile f) (sym c.in-Spec.is) tt, printed)) c.failed_alone.ensures
