use Rattle.std.proofs.Common.{ap, sym, subst, IfOk, IfErr}
use Rattle.std.proofs.lemmas.Result.{IfOk-weaker}
use Rattle.certificate_theory.specs.InductionCertificate.{ProofLine as PlainLine}
use Rattle.certificate_theory.specs.Proofs.{CaseComesTo, IsWrongAtCase}
use Rattle.induct_parts.specs.CaseView.{case_in, cases_in}
use Rattle.induct_parts.specs.CertificateView.{proof_line_of}
use Rattle.induct_parts.specs.FaultView.{HoldsOfLineFault}
use Rattle.induct_parts.specs.SettingView.{setting_covers, theory_in, proving_in}
use Rattle.induct_parts.proofs.lemmas.proof_line.Goals as goal

pub returns-in-Split-clause-comes : goal.returns-in-Split-clause-comes
returns-in-Split-clause-comes g c =
    let theory = theory_in c.args.setting.now (g.D.Deciding.known_data c.args.data_.now) (g.D.Deciding.canon c.args.data_.now) in
    subst (λ (l : PlainLine). IfOk c.split.result (λ parts. CaseComesTo theory (setting_covers c.args.setting.now)
    (proving_in c.args.proving.now) (case_in c.args.point.now) l (cases_in parts.items)))
    (sym (ap proof_line_of c.in-Split.is)) c.split.ensures.comes

pub returns-in-Split-clause-wrong : goal.returns-in-Split-clause-wrong
returns-in-Split-clause-wrong g c =
    let theory = theory_in c.args.setting.now (g.D.Deciding.known_data c.args.data_.now) (g.D.Deciding.canon c.args.data_.now) in
    subst (λ (l : PlainLine). IfErr c.split.result (λ fault. HoldsOfLineFault (IsWrongAtCase theory (setting_covers c.args.setting.now)
    (proving_in c.args.proving.now) (case_in c.args.point.now) l) fault))
    (sym (ap proof_line_of c.in-Split.is)) c.split.ensures.wrong

pub returns-in-Use-clause-comes : goal.returns-in-Use-clause-comes
returns-in-Use-clause-comes g c =
    let theory = theory_in c.args.setting.now (g.D.Deciding.known_data c.args.data_.now) (g.D.Deciding.canon c.args.data_.now) in
    subst (λ (l : PlainLine). IfOk c.use_line.result (λ parts. CaseComesTo theory (setting_covers c.args.setting.now)
    (proving_in c.args.proving.now) (case_in c.args.point.now) l (cases_in parts.items)))
    (sym (ap proof_line_of c.in-Use.is)) c.use_line.ensures.comes

pub returns-in-Use-clause-wrong : goal.returns-in-Use-clause-wrong
returns-in-Use-clause-wrong g c =
    let theory = theory_in c.args.setting.now (g.D.Deciding.known_data c.args.data_.now) (g.D.Deciding.canon c.args.data_.now) in
    subst (λ (l : PlainLine). IfErr c.use_line.result (λ fault. HoldsOfLineFault (IsWrongAtCase theory (setting_covers c.args.setting.now)
    (proving_in c.args.proving.now) (case_in c.args.point.now) l) fault))
    (sym (ap proof_line_of c.in-Use.is)) c.use_line.ensures.wrong

pub returns-in-Same-clause-comes : goal.returns-in-Same-clause-comes
returns-in-Same-clause-comes g c =
    let theory = theory_in c.args.setting.now (g.D.Deciding.known_data c.args.data_.now) (g.D.Deciding.canon c.args.data_.now) in
    subst (λ (l : PlainLine). IfOk c.end.result (λ parts. CaseComesTo theory (setting_covers c.args.setting.now)
    (proving_in c.args.proving.now) (case_in c.args.point.now) l (cases_in parts.items)))
    (sym (ap proof_line_of c.in-Same.is))
    (IfOk-weaker c.end.result _ _ (λ parts h. (h.1, ap cases_in h.0)) c.end.ensures.same)

pub returns-in-Same-clause-wrong : goal.returns-in-Same-clause-wrong
returns-in-Same-clause-wrong g c =
    let theory = theory_in c.args.setting.now (g.D.Deciding.known_data c.args.data_.now) (g.D.Deciding.canon c.args.data_.now) in
    subst (λ (l : PlainLine). IfErr c.end.result (λ fault. HoldsOfLineFault (IsWrongAtCase theory (setting_covers c.args.setting.now)
    (proving_in c.args.proving.now) (case_in c.args.point.now) l) fault))
    (sym (ap proof_line_of c.in-Same.is)) c.end.ensures.wrong
