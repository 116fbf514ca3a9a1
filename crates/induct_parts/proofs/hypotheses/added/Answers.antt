use Rattle.std.proofs.Common.{◌<◌, ◌++◌, length, map, get_or, ap, ◌∙◌, subst}
use Rattle.lotos_base.proofs.Members.{read_at}
use Rattle.induct_parts.specs.SettingView.{setting_signature}
use Rattle.induct_parts.specs.StatementView.{statement_of}
use Rattle.certificate_theory.specs.Splits.{hypotheses_for}
use Rattle.induct_parts.proofs.CaseSteps.{copies_over}
use Rattle.induct_parts.proofs.HypothesisSteps.{hypotheses_begin, hypotheses_go_on, hypotheses_end}
use Rattle.induct_parts.proofs.hypotheses.added.Goals as goal

pub loop-i-init : goal.loop-i-init
loop-i-init c = record {
  so_far = hypotheses_begin (statement_of c.args.point.now.goal) c.args.put.now.variable c.args.put.now.op.now.result
      (length c.args.point.now.sorts.items) c.as_slice-arguments.result.now c.in_ok-made.made.items c.args.point.now.hypotheses.items
      c.in_ok-made.ensures;
  over = copies_over (setting_signature c.args.setting.now) c.in_ok-made.made.items c.args.point.now.hypotheses.items
      c.in_ok-made.ensures c.requires.known.1.hypotheses;
}

pub add_if_sorted-requires-clause-within : goal.add_if_sorted-requires-clause-within
add_if_sorted-requires-clause-within c =
    subst (λ xs. c.loop-i.i < length xs) c.as_slice-arguments.ensures.value c.loop-i-test.true

pub loop-i-preserved : goal.loop-i-preserved
loop-i-preserved c = record {
  so_far = hypotheses_go_on (statement_of c.args.point.now.goal) c.args.put.now.variable c.args.put.now.op.now.result
      (length c.args.point.now.sorts.items) c.loop-i.i (get_or c.as_slice-arguments.result.now c.loop-i.i 0)
      c.as_slice-arguments.result.now (map statement_of c.loop-i.made.items) (map statement_of c.add_if_sorted.new.made.items) _
      c.loop-i-test.true (read_at c.as_slice-arguments.result.now c.loop-i.i c.loop-i-test.true) c.in_ok-add_if_sorted.ensures.added
      c.loop-i.invariant.so_far;
  over = c.in_ok-add_if_sorted.ensures.over c.loop-i.invariant.over;
}

pub returns-clause-added : goal.returns-clause-added
returns-clause-added c =
    hypotheses_end (statement_of c.args.point.now.goal) c.args.put.now.variable c.args.put.now.op.now.result
    (length c.args.point.now.sorts.items) c.loop-i.i c.as_slice-arguments.result.now (map statement_of c.loop-i.made.items) _
    c.loop-i-test.false c.loop-i.invariant.so_far
    ∙ ap (λ xs. map statement_of c.args.point.now.hypotheses.items
    ++ hypotheses_for (statement_of c.args.point.now.goal) c.args.put.now.variable c.args.put.now.op.now.result
    (length c.args.point.now.sorts.items) xs) c.as_slice-arguments.ensures.value
