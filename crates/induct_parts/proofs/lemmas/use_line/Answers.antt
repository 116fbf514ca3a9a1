use Rattle.std.proofs.Common.{◌++◌, ◌∷◌, [], List, refl, ap, sym, ◌∙◌, subst}
use Rattle.lotos_base.proofs.Each.{Each}
use Rattle.lotos_base.specs.Equation.{Data}
use Rattle.lotos_base.specs.Signature.{Signature}
use Rattle.lotos_base.specs.Term.{Term}
use Rattle.certificate_theory.specs.InductionCertificate.{Statement as PlainStatement}
use Rattle.certificate_theory.specs.Uses.{IsUsed}
use Rattle.induct_parts.specs.CaseView.{case_in, cases_in, IsKnownCase}
use Rattle.induct_parts.specs.CertificateView.{use_of}
use Rattle.induct_parts.specs.SettingView.{setting_signature, theory_in, proving_in}
use Rattle.induct_parts.specs.StatementView.{statement_of, IsStatementOf}
use Rattle.induct_parts.specs.declared.cases.Case.{Case}
use Rattle.induct_parts.specs.declared.statements.Statement.{Statement}
use Rattle.induct_parts.proofs.CaseSteps.{used_is, used_is_known, copies_over}
use Rattle.induct_parts.proofs.Outcomes.{if_some_at, if_none_at}
use Rattle.induct_parts.proofs.lemmas.use_line.Goals as goal

pub returns-in_default-clause-wrong : goal.returns-in_default-clause-wrong
returns-in_default-clause-wrong g c = (
  if_none_at ((data_ : Data) (canon : Term → Term) (made : PlainStatement) → ¬ IsUsed (theory_in c.args.setting.now data_ canon)
      (proving_in c.args.proving.now) (case_in c.args.point.now) (use_of c.args.use_.now) made)
      c.in_ok-made.field-0 c.in_default.is c.in_ok-made.ensures.none
      (g.D.Deciding.known_data c.args.data_.now) (g.D.Deciding.canon c.args.data_.now),
  refl,
)

pub normal_both-requires : goal.normal_both-requires
normal_both-requires g c =
    subst (λ (s : Signature). IsStatementOf s c.in-Some.made) c.requires.set.signature
    (if_some_at (IsStatementOf (setting_signature c.args.setting.now)) c.in_ok-made.field-0 c.in-Some.made c.in-Some.is
    c.in_ok-made.ensures.over)

pub returns-clause-comes : goal.returns-clause-comes
returns-clause-comes g c =
    let data_ = g.D.Deciding.known_data c.args.data_.now in
    let canon = g.D.Deciding.canon c.args.data_.now in
    let theory = theory_in c.args.setting.now data_ canon in
    let part : Case = record {
      sorts = c.in_ok-sorts.sorts;
      gone = c.in_ok-gone.gone;
      hypotheses = c.in_ok-hypotheses.hypotheses;
      goal = c.in_ok-goal.goal;
    } in (
      statement_of c.in-Some.made,
      if_some_at (λ (made : Statement). (d : Data) (k : Term → Term) → IsUsed (theory_in c.args.setting.now d k)
          (proving_in c.args.proving.now) (case_in c.args.point.now) (use_of c.args.use_.now) (statement_of made))
          c.in_ok-made.field-0 c.in-Some.made c.in-Some.is c.in_ok-made.ensures.some data_ canon,
      ap cases_in (c.in_ok-push.ensures.items ∙ ap (λ (ps : List Case). ps ++ part ∷ []) c.new-parts.ensures.items)
          ∙ ap (λ p. p ∷ []) (used_is theory c.args.point.now part (statement_of c.in-Some.made)
          (c.in_ok-sorts.ensures.items ∙ c.as_slice.ensures.value) (c.in_ok-gone.ensures.items ∙ c.as_slice-2.ensures.value)
          c.in_ok-hypotheses.ensures c.in_ok-goal.ensures.made),
    )

pub returns-clause-known : goal.returns-clause-known
returns-clause-known g c =
    let data_ = g.D.Deciding.known_data c.args.data_.now in
    let canon = g.D.Deciding.canon c.args.data_.now in
    let theory = theory_in c.args.setting.now data_ canon in
    let signature = setting_signature c.args.setting.now in
    let part : Case = record {
      sorts = c.in_ok-sorts.sorts;
      gone = c.in_ok-gone.gone;
      hypotheses = c.in_ok-hypotheses.hypotheses;
      goal = c.in_ok-goal.goal;
    } in
    let used = if_some_at (λ (made : Statement). (d : Data) (k : Term → Term) → IsUsed (theory_in c.args.setting.now d k)
    (proving_in c.args.proving.now) (case_in c.args.point.now) (use_of c.args.use_.now) (statement_of made))
    c.in_ok-made.field-0 c.in-Some.made c.in-Some.is c.in_ok-made.ensures.some data_ canon in
    subst (Each (IsKnownCase signature c.args.proving.now.free))
    (sym (c.in_ok-push.ensures.items ∙ ap (λ (ps : List Case). ps ++ part ∷ []) c.new-parts.ensures.items)) (
      used_is_known c.args.setting.now data_ canon c.args.proving.now c.args.point.now part (use_of c.args.use_.now)
          (statement_of c.in-Some.made) c.requires.set c.requires.before c.requires.known used
          (used_is theory c.args.point.now part (statement_of c.in-Some.made)
          (c.in_ok-sorts.ensures.items ∙ c.as_slice.ensures.value) (c.in_ok-gone.ensures.items ∙ c.as_slice-2.ensures.value)
          c.in_ok-hypotheses.ensures c.in_ok-goal.ensures.made)
          (c.in_ok-goal.ensures.over _ c.requires.set.signature)
          (copies_over signature c.in_ok-hypotheses.hypotheses.items c.args.point.now.hypotheses.items c.in_ok-hypotheses.ensures
          c.requires.known.hypotheses),
      tt,
    )
