use Rattle.std.proofs.Common.{◌≡◌, ◌++◌, map, drop}
use Rattle.lotos_base.proofs.Each.{Each}
use Rattle.lotos_base.specs.Substitution.{substituted}
use Rattle.sort_terms.specs.SortedView.{term_in}
use Rattle.certificate_theory.specs.Patterns.{put_for}
use Rattle.certificate_theory.specs.Splits.{in_both}
use Rattle.induct_parts.specs.StatementView.{IsStatementOf, statement_of}
use Rattle.induct_parts.specs.SettingView.{setting_signature}
use Rattle.induct_parts.proofs.hypotheses.changed.Given as goal

abbrev pub invariant-loop-number : goal.invariant-loop-number
invariant-loop-number l = record {
  so_far : map statement_of l.made.items
      ++ map (in_both (substituted (put_for l.put.variable l.put.op.now.result (term_in l.put.term.now))))
      (map statement_of (drop l.number l.hypotheses))
      ≡ map (in_both (substituted (put_for l.put.variable l.put.op.now.result (term_in l.put.term.now))))
      (map statement_of l.hypotheses);
  over : Each (IsStatementOf (setting_signature l.setting)) l.made.items;
}
