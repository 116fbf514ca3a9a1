use Rattle.std.proofs.Common.{◌++◌, map, length}
use Rattle.lotos_base.proofs.Each.{Each}
use Rattle.certificate_theory.specs.Splits.{hypotheses_for}
use Rattle.induct_parts.specs.StatementView.{IsStatementOf, statement_of}
use Rattle.induct_parts.specs.SettingView.{setting_signature}
use Rattle.induct_parts.proofs.StepLemmas.{IsMadeSoFar, hypotheses_make}
use Rattle.induct_parts.proofs.hypotheses.added.Given as goal

abbrev pub invariant-loop-i : goal.invariant-loop-i
invariant-loop-i l = record {
  so_far : IsMadeSoFar
      (hypotheses_make (statement_of l.point.goal) l.put.variable l.put.op.now.result (length l.point.sorts.items))
      l.arguments
      (map statement_of l.point.hypotheses.items
      ++ hypotheses_for (statement_of l.point.goal) l.put.variable l.put.op.now.result (length l.point.sorts.items)
      l.arguments)
      l.i (map statement_of l.made.items);
  over : Each (IsStatementOf (setting_signature l.setting)) l.made.items;
}
