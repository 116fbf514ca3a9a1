use Rattle.std.proofs.Common.{◌<◌, ◌++◌, ◌∷◌, ℕ, List, [], length, map, get_or, ap, sym, ◌∙◌, subst, refl}
use Rattle.std.proofs.lemmas.Option.{slice_get_read}
use Rattle.lotos_base.specs.Substitution.{substituted}
use Rattle.lotos_base.proofs.Each.{Each, each_member}
use Rattle.sort_terms.specs.SortedView.{term_in}
use Rattle.certificate_theory.specs.InductionCertificate.{Statement as PlainStatement}
use Rattle.certificate_theory.specs.Patterns.{put_for}
use Rattle.certificate_theory.specs.Splits.{in_both}
use Rattle.induct_parts.specs.SettingView.{setting_signature}
use Rattle.induct_parts.specs.StatementView.{statement_of, IsStatementOf}
use Rattle.induct_parts.specs.declared.statements.Statement.{Statement}
use Rattle.induct_parts.proofs.HypothesisSteps.{changed_more, changed_end, put_in_hypothesis, put_sort, put_over}
use Rattle.induct_parts.proofs.StepLemmas.{pushed, each_pushed}
use Rattle.induct_parts.proofs.hypotheses.changed.Goals as goal

pub put_for-requires : goal.put_for-requires
put_for-requires c =
    put_in_hypothesis c.args.setting.now c.args.point.now c.args.put.now c.requires.put c.requires.known.0 c.requires.known.1
    c.loop-number.number c.index-hypotheses-number.result
    (subst (λ hs. c.loop-number.number < length hs) c.as_slice-hypotheses.ensures.value c.loop-number-test.true)
    (c.index-hypotheses-number.is
    ∙ ap (λ hs. get_or hs c.loop-number.number c.index-hypotheses-number.result) c.as_slice-hypotheses.ensures.value)

pub loop-number-preserved : goal.loop-number-preserved
loop-number-preserved c =
    let put = c.args.put.now in
    let f = λ (k : ℕ). in_both (substituted (put_for put.variable k (term_in put.term.now))) in
    let h = c.index-hypotheses-number.result in
    record {
      so_far = changed_more (f put.op.now.result) c.as_slice-hypotheses.result.now c.loop-number.number h
          (map statement_of c.loop-number.made.items) (map statement_of c.push.new.self.items) _ c.loop-number-test.true
          c.index-hypotheses-number.is
          (pushed statement_of c.loop-number.made.items c.push.new.self.items c.in_ok-hypothesis.hypothesis c.in_ok-push.ensures.items
          ∙ ap (λ (s : PlainStatement). map statement_of c.loop-number.made.items ++ s ∷ [])
          (c.in_ok-hypothesis.ensures.made
          ∙ ap (λ k. f k (statement_of h))
          (put_sort c.args.setting.now c.args.point.now put c.requires.put)))
          c.loop-number.invariant.so_far;
      over = each_pushed (IsStatementOf (setting_signature c.args.setting.now)) c.loop-number.made.items c.push.new.self.items
          c.in_ok-hypothesis.hypothesis c.in_ok-push.ensures.items
          (c.in_ok-hypothesis.ensures.over (setting_signature c.args.setting.now)
          (each_member (IsStatementOf (setting_signature c.args.setting.now)) c.as_slice-hypotheses.result.now c.loop-number.number h
          (subst (Each (IsStatementOf (setting_signature c.args.setting.now))) (sym c.as_slice-hypotheses.ensures.value)
          c.requires.known.1.hypotheses)
          (slice_get_read c.as_slice-hypotheses.result.now (length c.as_slice-hypotheses.result.now) c.loop-number.number h refl
          c.loop-number-test.true c.index-hypotheses-number.is))
          (put_over c.args.setting.now c.args.point.now put c.requires.put))
          c.loop-number.invariant.over;
    }

pub returns-clause-changed : goal.returns-clause-changed
returns-clause-changed c =
    let put = c.args.put.now in
    let f = in_both (substituted (put_for put.variable put.op.now.result (term_in put.term.now))) in
    changed_end f c.as_slice-hypotheses.result.now c.loop-number.number (map statement_of c.loop-number.made.items) _
    c.loop-number-test.false c.loop-number.invariant.so_far
    ∙ ap (λ (hs : List Statement). map f (map statement_of hs)) c.as_slice-hypotheses.ensures.value
