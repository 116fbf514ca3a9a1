-- Rewriting by oriented rules ends, and they are well formed.
use Rattle.rewriting_theory.proofs.ChosenCanonLemmas.{one_chosen, pairs_tell}
use Rattle.rewriting_theory.proofs.chosen_canon.oriented_rules_have_chosen_forms.Goals as goal

pub returns-clause-chosen : goal.returns-clause-chosen
returns-clause-chosen c = one_chosen

pub returns-clause-confluent : goal.returns-clause-confluent
returns-clause-confluent c = pairs_tell
