use Rattle.draft_parts.proofs.rules.hidden.Goals as goal

pub returns-clause-over : goal.returns-clause-over
returns-clause-over c = λ signature h. record {
  values = c.hide_label.ensures.over signature h.values;
  leaves = h.leaves;
  conditions = h.conditions;
}
