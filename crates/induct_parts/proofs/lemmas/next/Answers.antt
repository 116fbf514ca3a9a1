use Rattle.std.proofs.Common.{List, ◌∷◌, map, reverse, sym, ◌∙◌}
use Rattle.std.proofs.lemmas.List.{nil_from_length}
use Rattle.induct_parts.specs.CaseView.{case_in, IsKnownCase}
use Rattle.induct_parts.specs.CertificateView.{proof_line_of}
use Rattle.induct_parts.specs.SettingView.{setting_signature, setting_covers, theory_in, proving_in}
use Rattle.certificate_theory.specs.Proofs.{CaseComesTo, IsWrongAtCase}
use Rattle.certificate_theory.specs.InductionCertificate.{ProofLine}
use Rattle.certificate_theory.specs.Faults.{bad_line}
use Rattle.certificate_theory.specs.Lines.{FailsToDeal}
use Rattle.induct_parts.specs.FaultView.{HoldsOfLineFault}
use Rattle.induct_parts.specs.declared.line_fault.LineFault.{LineFault}
use Rattle.induct_parts.proofs.Outcomes.{handed_on}
use Rattle.induct_parts.proofs.LineSteps.{next_reach, next_known, next_wrong, next_surplus, top_known}
use Rattle.induct_parts.proofs.lemmas.next.Goals as goal

pub proof_line-requires-clause-known : goal.proof_line-requires-clause-known
proof_line-requires-clause-known g c =
    top_known (IsKnownCase (setting_signature c.args.setting.now) c.args.proving.now.free) c.args.left.now.items c.pop.new.self.items
    c.in-Some.point c.in-Some.ensures.items c.requires.known

pub returns-in_default-clause-wrong : goal.returns-in_default-clause-wrong
returns-in_default-clause-wrong g c =
    let theory = theory_in c.args.setting.now (g.D.Deciding.known_data c.args.data_.now) (g.D.Deciding.canon c.args.data_.now) in
    next_surplus (CaseComesTo theory (setting_covers c.args.setting.now) (proving_in c.args.proving.now))
    (IsWrongAtCase theory (setting_covers c.args.setting.now) (proving_in c.args.proving.now)) case_in c.args.left.now.items
    (proof_line_of c.args.line.now)
    (nil_from_length c.args.left.now.items (sym c.args.left.now.ok.0 ∙ c.in_default.ensures.cases.0))

pub returns-in_err-parts-clause-wrong : goal.returns-in_err-parts-clause-wrong
returns-in_err-parts-clause-wrong g c =
    let theory = theory_in c.args.setting.now (g.D.Deciding.known_data c.args.data_.now) (g.D.Deciding.canon c.args.data_.now) in
    handed_on (λ (fault : LineFault). (rest : List ProofLine) → HoldsOfLineFault (FailsToDeal (CaseComesTo theory
    (setting_covers c.args.setting.now) (proving_in c.args.proving.now))
    (IsWrongAtCase theory (setting_covers c.args.setting.now) (proving_in c.args.proving.now)) bad_line
    (map case_in (reverse c.args.left.now.items)) (proof_line_of c.args.line.now ∷ rest) 0) fault)
    c.from_residual.result c.in_err-parts.field-0.0 c.from_residual.ensures.1
    (next_wrong (CaseComesTo theory (setting_covers c.args.setting.now) (proving_in c.args.proving.now))
    (IsWrongAtCase theory (setting_covers c.args.setting.now) (proving_in c.args.proving.now)) case_in c.args.left.now.items
    c.pop.new.self.items c.in-Some.point (proof_line_of c.args.line.now) c.in_err-parts.field-0.0 c.in-Some.ensures.items
    c.in_err-parts.ensures.wrong)

pub returns-clause-comes : goal.returns-clause-comes
returns-clause-comes g c =
    let theory = theory_in c.args.setting.now (g.D.Deciding.known_data c.args.data_.now) (g.D.Deciding.canon c.args.data_.now) in
    next_reach (CaseComesTo theory (setting_covers c.args.setting.now) (proving_in c.args.proving.now))
    (IsWrongAtCase theory (setting_covers c.args.setting.now) (proving_in c.args.proving.now)) case_in c.args.left.now.items
    c.pop.new.self.items c.pile.new.left.items c.in_ok-parts.parts.items c.in-Some.point (proof_line_of c.args.line.now)
    c.in-Some.ensures.items
    c.in_ok-parts.ensures.comes c.in_ok-pile.ensures

pub returns-clause-known : goal.returns-clause-known
returns-clause-known g c =
    next_known (IsKnownCase (setting_signature c.args.setting.now) c.args.proving.now.free) c.args.left.now.items c.pop.new.self.items
    c.pile.new.left.items
    c.in_ok-parts.parts.items c.in-Some.point c.in-Some.ensures.items c.requires.known c.in_ok-parts.ensures.known c.in_ok-pile.ensures
