use Rattle.std.proofs.Common.{◌≡◌, ◌≤◌, List, length, refl, sym, subst, ltb-true, ltb-false}
use Rattle.std.specs.Prelude.{Some, slice_get}
use Rattle.std.proofs.lemmas.Option.{slice_get_past, slice_get_read}
use Rattle.induct_parts.specs.UseView.{IsKnownSource}
use Rattle.certificate_theory.specs.InductionCertificate.{Statement as PlainStatement}
use Rattle.certificate_theory.specs.Uses.{IsOfSource}
use Rattle.induct_parts.specs.CaseView.{case_in}
use Rattle.induct_parts.specs.CertificateView.{use_source_of}
use Rattle.induct_parts.specs.SettingView.{proving_in}
use Rattle.induct_parts.specs.declared.certificates.Source.{Source}
use Rattle.induct_parts.specs.declared.statements.Statement.{Statement}
use Rattle.induct_parts.proofs.UseSources.{hypothesis_source, lemma_source, no_hypothesis}
use Rattle.induct_parts.proofs.uses.statement_at.Goals as goal

pub returns-in-Some : goal.returns-in-Some
returns-in-Some c = λ setting known before.
    subst (λ (s : Source). IsKnownSource setting c.args.proving.now c.args.point.now s c.in-Some.lemma.now.statement)
    (sym c.in-Lemma.is)
    (lemma_source setting c.args.proving.now c.args.point.now c.in-Lemma.number c.in-Some.lemma.now before
    (slice_get_read c.args.proving.now.earlier.now (length c.args.proving.now.earlier.now) c.in-Lemma.number c.in-Some.lemma.now refl
    (ltb-true _ _ (sym c.in-Some.ensures.lookup.0)) c.in-Some.ensures.lookup.1))

pub returns-in-Some-get : goal.returns-in-Some-get
returns-in-Some-get c = λ setting known before.
    let got = slice_get_read c.deref.result.now (length c.deref.result.now) c.in-Hypothesis.number c.in-Some-get.hypothesis.now refl
    (ltb-true _ _ (sym c.in-Some-get.ensures.lookup.0)) c.in-Some-get.ensures.lookup.1 in
    subst (λ (s : Source). IsKnownSource setting c.args.proving.now c.args.point.now s c.in-Some-get.hypothesis.now)
    (sym c.in-Hypothesis.is)
    (hypothesis_source setting c.args.proving.now c.args.point.now c.in-Hypothesis.number c.in-Some-get.hypothesis.now known
    (subst (λ (hs : List Statement). slice_get hs c.in-Hypothesis.number ≡ Some c.in-Some-get.hypothesis.now) c.deref.ensures.value got))

pub returns-in-None-get : goal.returns-in-None-get
returns-in-None-get c =
    let past : length c.deref.result.now ≤ c.in-Hypothesis.number = ltb-false _ _ (sym c.in-None-get.ensures.lookup.0) in
    let none = slice_get_past c.args.point.now.hypotheses.items c.in-Hypothesis.number
    (subst (λ (hs : List Statement). length hs ≤ c.in-Hypothesis.number) c.deref.ensures.value past) in
    subst (λ (s : Source). (statement : PlainStatement)
    → ¬ IsOfSource (proving_in c.args.proving.now) (case_in c.args.point.now) (use_source_of s) statement) (sym c.in-Hypothesis.is)
    (λ statement. no_hypothesis c.args.proving.now c.args.point.now c.in-Hypothesis.number statement none)
