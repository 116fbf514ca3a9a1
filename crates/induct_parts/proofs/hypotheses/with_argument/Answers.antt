use Rattle.std.proofs.Common.{sym, ◌∙◌}
use Rattle.std.proofs.lemmas.Result.{IfOk-weaker}
use Rattle.induct_parts.specs.SettingView.{setting_signature}
use Rattle.induct_parts.specs.StatementView.{statement_of}
use Rattle.induct_parts.proofs.HypothesisSteps.{variable_sort, variable_over, put_variable}
use Rattle.induct_parts.proofs.hypotheses.with_argument.Goals as goal

pub put_for-requires : goal.put_for-requires
put_for-requires c = λ s o.
    c.requires.one_sort s o ∙ sym (variable_sort c.of-term.result c.args.argument c.args.put.now.op.now.result c.of-term.ensures)

pub returns-clause-made : goal.returns-clause-made
returns-clause-made c =
    IfOk-weaker c.put_for.result _ _
    (λ made h. put_variable c.args.put.now.variable c.args.put.now.op.now.result c.args.argument c.of-term.result
    (statement_of c.args.goal.now) made c.of-term.ensures h)
    c.put_for.ensures.made

pub returns-clause-over : goal.returns-clause-over
returns-clause-over c =
    IfOk-weaker c.put_for.result _ _
    (λ made h. h (setting_signature c.args.setting.now) c.requires.over
    (variable_over (setting_signature c.args.setting.now) c.of-term.result c.args.argument c.args.put.now.op.now.result c.of-term.ensures
    c.requires.sort))
    c.put_for.ensures.over
