use Rattle.std.proofs.Common.{sym, subst}
use Rattle.behaviour_tree.specs.Over.{AreTermsOf}
use Rattle.draft_parts.proofs.rules.relabelled.Goals as goal

pub returns-clause-over : goal.returns-clause-over
returns-clause-over c = λ signature h. record {
  values = subst (AreTermsOf signature) (sym c.relabel.ensures.profiles) h.values;
  leaves = h.leaves;
  conditions = h.conditions;
}
