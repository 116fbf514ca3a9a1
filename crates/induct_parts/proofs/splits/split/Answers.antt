use Rattle.std.proofs.Common.{◌≡◌, refl, inl, inr}
use Rattle.std.specs.Prelude.{None}
use Rattle.std.proofs.lemmas.Result.{IfOk-weaker, IfErr-weaker}
use Rattle.certificate_theory.specs.InductionCertificate.{split_variable}
use Rattle.certificate_theory.specs.Covers.{cover_of}
use Rattle.certificate_theory.specs.Faults.{no_cover}
use Rattle.certificate_theory.specs.Proofs.{IsWrongAtCase}
use Rattle.induct_parts.specs.CaseView.{case_in}
use Rattle.induct_parts.specs.SettingView.{setting_covers, theory_in, proving_in}
use Rattle.induct_parts.proofs.LineSteps.{fault_more}
use Rattle.induct_parts.proofs.splits.split.Goals as goal

pub returns-in-Some-clause-comes : goal.returns-in-Some-clause-comes
returns-in-Some-clause-comes g c =
    IfOk-weaker c.split_of.result _ _ (λ parts h. (c.in-Some.sort, h.0, c.in-Some.ensures, h.1, h.2)) c.split_of.ensures.made

pub returns-in-Some-clause-wrong : goal.returns-in-Some-clause-wrong
returns-in-Some-clause-wrong g c =
    let theory = theory_in c.args.setting.now (g.D.Deciding.known_data c.args.data_.now) (g.D.Deciding.canon c.args.data_.now) in
    IfErr-weaker c.split_of.result _ _
    (λ fault h. fault_more
    (λ told. (cover_of (setting_covers c.args.setting.now) c.in-Some.sort ≡ None) × (told ≡ no_cover))
    (IsWrongAtCase theory (setting_covers c.args.setting.now) (proving_in c.args.proving.now) (case_in c.args.point.now)
    (split_variable c.args.number))
    (λ told k. inr (c.in-Some.sort, c.in-Some.ensures, k.0, k.1)) fault h)
    c.split_of.ensures.wrong

pub returns-in-None-clause-wrong : goal.returns-in-None-clause-wrong
returns-in-None-clause-wrong g c = inl (c.in-None.ensures, refl)
