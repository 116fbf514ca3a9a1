-- By recursion on the derivation.
use Rattle.rewriting_theory.proofs.PublicLemmas.{chosen_rewritten, chosen_normal, normal_chosen}
use Rattle.rewriting_theory.proofs.chosen_forms.chosen_forms_are_normal_forms.Goals as goal

pub returns-clause-reached : goal.returns-clause-reached
returns-clause-reached c = λ rules t u chosen. chosen_rewritten chosen

pub returns-clause-irreducible : goal.returns-clause-irreducible
returns-clause-irreducible c = λ rules t u well chosen. chosen_normal well chosen

pub returns-clause-settled : goal.returns-clause-settled
returns-clause-settled c = λ rules t well ends. ((λ stuck. normal_chosen ends stuck), (λ chosen. chosen_normal well chosen))
