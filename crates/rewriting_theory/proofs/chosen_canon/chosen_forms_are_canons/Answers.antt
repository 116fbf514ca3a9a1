-- Chosen forms are normal forms, and those are canons where rewriting is confluent.
use Rattle.rewriting_theory.proofs.ChosenCanonLemmas.{sorted_rules, chosen_canon, some_canon, chosen_decide}
use Rattle.rewriting_theory.proofs.chosen_canon.chosen_forms_are_canons.Goals as goal

pub returns-clause-rules : goal.returns-clause-rules
returns-clause-rules c = sorted_rules

pub returns-clause-canons : goal.returns-clause-canons
returns-clause-canons c = chosen_canon

pub returns-clause-some_canon : goal.returns-clause-some_canon
returns-clause-some_canon c = some_canon

pub returns-clause-decided : goal.returns-clause-decided
returns-clause-decided c = chosen_decide
