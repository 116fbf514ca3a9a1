-- By recursion on the derivation; a term has only one derivation up to its size.
use Rattle.rewriting_theory.specs.Measure.{choice_cost}
use Rattle.rewriting_theory.proofs.CostLemmas.{costs_are_measures}
use Rattle.rewriting_theory.proofs.PublicLemmas.{chosen_form}
use Rattle.rewriting_theory.proofs.measures.derivations_of_chosen_forms_shrink.Goals as goal

pub returns-clause-costs : goal.returns-clause-costs
returns-clause-costs c = costs_are_measures

pub returns-clause-exist : goal.returns-clause-exist
returns-clause-exist c = λ rules well ends.
    (choice_cost (chosen_form rules ends), costs_are_measures rules (chosen_form rules ends) well)
