use Rattle.std.proofs.Common.{◌+◌, ◌≤◌, ◌^◌, ◌∷◌, [], ℕ, length, map, ap, sym, ◌∙◌, subst}
use Rattle.std.proofs.lemmas.Result.{IfOk-weaker, IfErr-weaker}
use Rattle.lotos_base.specs.Equation.{Data}
use Rattle.lotos_base.specs.Term.{Term}
use Rattle.certificate_theory.specs.Certified.{statements_of}
use Rattle.certificate_theory.specs.Faults.{bad_line}
use Rattle.certificate_theory.specs.Lines.{DealsWith, FailsToDeal}
use Rattle.certificate_theory.specs.Proofs.{CaseComesTo, IsWrongAtCase}
use Rattle.induct_parts.specs.FaultView.{HoldsOfLineFault, FromLine}
use Rattle.induct_parts.specs.CaseView.{case_in, IsKnownCase}
use Rattle.induct_parts.specs.CertificateView.{lemma_in, lemmas_in, proof_line_of}
use Rattle.induct_parts.specs.SettingView.{setting_signature, setting_covers, theory_in, IsSet}
use Rattle.induct_parts.proofs.DataLemmas.{held_then, held_before}
use Rattle.induct_parts.proofs.PieceSteps.{lemma_right, lemma_wrong}
use Rattle.induct_parts.proofs.lemmas.check_lemma.Goals as goal

pub deal-requires-clause-set : goal.deal-requires-clause-set
deal-requires-clause-set g c =
    held_then (IsSet c.args.setting.now) c.first.ensures.same_data c.first.ensures.same_canon c.requires.set

pub deal-requires-clause-known : goal.deal-requires-clause-known
deal-requires-clause-known g c =
    subst (λ (n : ℕ). IsKnownCase (setting_signature c.args.setting.now) n c.in_ok-point.point)
    (sym (c.len.ensures ∙ c.args.lemma.now.variables.ok.0)) c.in_ok-point.ensures.known

pub deal-requires-clause-few : goal.deal-requires-clause-few
deal-requires-clause-few g c = subst (λ ls. c.args.begin + 3 + length ls ≤ 2 ^ 32) (sym c.as_slice-lines.ensures.value) c.requires.few

pub returns-clause-right : goal.returns-clause-right
returns-clause-right g c =
    let theory = theory_in c.args.setting.now (g.D.Deciding.known_data c.args.data_.now) (g.D.Deciding.canon c.args.data_.now) in
    let earlier = lemmas_in c.args.earlier.now in
    IfOk-weaker c.deal.result _ _
    (λ u deals. lemma_right theory (setting_covers c.args.setting.now) earlier (lemma_in c.args.lemma.now)
    (record { earlier = statements_of earlier; free = c.len.result }) (case_in c.in_ok-point.point)
    (map proof_line_of c.as_slice-lines.result.now)
    (ap (λ (n : ℕ). record { earlier = statements_of earlier; free = n }) (c.len.ensures ∙ c.args.lemma.now.variables.ok.0))
    c.in_ok-point.ensures.first (ap (map proof_line_of) c.as_slice-lines.ensures.value)
    (held_before (λ (d : Data) (k : Term → Term). DealsWith (CaseComesTo (theory_in c.args.setting.now d k)
    (setting_covers c.args.setting.now) (record { earlier = statements_of earlier; free = c.len.result }))
    (case_in c.in_ok-point.point ∷ []) (map proof_line_of c.as_slice-lines.result.now))
    c.first.ensures.same_data c.first.ensures.same_canon deals))
    c.deal.ensures.right

pub returns-clause-wrong : goal.returns-clause-wrong
returns-clause-wrong g c =
    let theory = theory_in c.args.setting.now (g.D.Deciding.known_data c.args.data_.now) (g.D.Deciding.canon c.args.data_.now) in
    let earlier = lemmas_in c.args.earlier.now in
    IfErr-weaker c.deal.result _ _
    (λ at wrong. lemma_wrong theory (setting_covers c.args.setting.now) earlier (lemma_in c.args.lemma.now)
    (record { earlier = statements_of earlier; free = c.len.result }) (case_in c.in_ok-point.point)
    (map proof_line_of c.as_slice-lines.result.now) c.args.begin at.line at.fault
    (ap (λ (n : ℕ). record { earlier = statements_of earlier; free = n }) (c.len.ensures ∙ c.args.lemma.now.variables.ok.0))
    c.in_ok-point.ensures.first (ap (map proof_line_of) c.as_slice-lines.ensures.value)
    (held_before (λ (d : Data) (k : Term → Term). HoldsOfLineFault (FromLine (c.args.begin + 3) (FailsToDeal
    (CaseComesTo (theory_in c.args.setting.now d k) (setting_covers c.args.setting.now)
    (record { earlier = statements_of earlier; free = c.len.result }))
    (IsWrongAtCase (theory_in c.args.setting.now d k) (setting_covers c.args.setting.now)
    (record { earlier = statements_of earlier; free = c.len.result }))
    bad_line (case_in c.in_ok-point.point ∷ []) (map proof_line_of c.as_slice-lines.result.now)) at.line) at.fault)
    c.first.ensures.same_data c.first.ensures.same_canon wrong))
    c.deal.ensures.wrong
