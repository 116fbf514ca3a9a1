-- The lists in order are one, and so are their counts.
use Rattle.value_lists.proofs.OutcomeLemmas.{values_once, instances_once}
use Rattle.value_lists.proofs.line_laws.lists_have_one_answer.Goals as goal

pub returns-clause-values : goal.returns-clause-values
returns-clause-values c = values_once

pub returns-clause-instances : goal.returns-clause-instances
returns-clause-instances c = instances_once
