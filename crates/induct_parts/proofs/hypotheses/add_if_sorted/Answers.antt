use Rattle.std.proofs.Common.{◌+◌, ◌++◌, ◌∷◌, [], ℕ, map, nat_eq, ap, ◌∙◌, arith}
use Rattle.lotos_base.specs.Substitution.{substituted}
use Rattle.lotos_base.specs.Term.{variable}
use Rattle.certificate_theory.specs.InductionCertificate.{Statement as PlainStatement}
use Rattle.certificate_theory.specs.Patterns.{put_for}
use Rattle.certificate_theory.specs.Splits.{in_both}
use Rattle.induct_parts.specs.SettingView.{setting_signature}
use Rattle.induct_parts.specs.StatementView.{statement_of, IsStatementOf}
use Rattle.induct_parts.proofs.HypothesisSteps.{other_sort, one_sort, put_result_sort, put_in_goal}
use Rattle.induct_parts.proofs.StepLemmas.{kept_unless, added_where, pushed, each_pushed}
use Rattle.induct_parts.proofs.hypotheses.add_if_sorted.Goals as goal

pub overflow_add-argument : goal.overflow_add-argument
overflow_add-argument c = omega (arith, c.requires.room, c.requires.within, c.len.ensures, c.args.point.now.sorts.ok.0)

pub with_argument-requires-clause-sort : goal.with_argument-requires-clause-sort
with_argument-requires-clause-sort c =
    put_result_sort c.args.setting.now c.args.point.now c.args.put.now c.requires.put

pub with_argument-requires-clause-one_sort : goal.with_argument-requires-clause-one_sort
with_argument-requires-clause-one_sort c =
    put_in_goal c.args.setting.now c.args.point.now c.args.put.now c.requires.put c.requires.known.0 c.requires.known.1

pub returns-then-sort-put-clause-added : goal.returns-then-sort-put-clause-added
returns-then-sort-put-clause-added c =
    kept_unless (nat_eq c.args.put.now.op.now.result c.args.sort) (map statement_of c.args.made.now.items) _
    (other_sort c.args.put.now.op.now.result c.args.sort c.if-sort-put.true)

pub returns-clause-added : goal.returns-clause-added
returns-clause-added c =
    added_where (nat_eq c.args.put.now.op.now.result c.args.sort) (map statement_of c.args.made.now.items) _
    (map statement_of c.push.new.self.items) (one_sort c.args.put.now.op.now.result c.args.sort c.if-sort-put.false)
    (pushed statement_of c.args.made.now.items c.push.new.self.items c.in_ok-hypothesis.hypothesis c.in_ok-push.ensures.items
    ∙ ap (λ (s : PlainStatement). map statement_of c.args.made.now.items ++ s ∷ [])
    (c.in_ok-hypothesis.ensures.made
    ∙ ap (λ (m : ℕ). in_both (substituted (put_for c.args.put.now.variable c.args.put.now.op.now.result
    (variable m c.args.put.now.op.now.result))) (statement_of c.args.point.now.goal))
    (ap (λ (m : ℕ). m + c.args.i) (c.len.ensures ∙ c.args.point.now.sorts.ok.0))))

pub returns-clause-over : goal.returns-clause-over
returns-clause-over c = λ each.
    each_pushed (IsStatementOf (setting_signature c.args.setting.now)) c.args.made.now.items c.push.new.self.items
    c.in_ok-hypothesis.hypothesis c.in_ok-push.ensures.items c.in_ok-hypothesis.ensures.over each
