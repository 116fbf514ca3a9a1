-- The term rewrites to its chosen form, which is irreducible.
use Rattle.rewriting_theory.proofs.ChosenLemmas.{chosen_reached}
use Rattle.rewriting_theory.proofs.PublicLemmas.{chosen_rewritten, chosen_normal}
use Rattle.rewriting_theory.proofs.SortedSteps.{reaches_sort}
use Rattle.rewriting_theory.proofs.RenamedLemmas.{chosen_occurs}
use Rattle.rewriting_theory.proofs.normal_forms.chosen_forms_keep_terms.Goals as goal

pub returns-clause-sorts : goal.returns-clause-sorts
returns-clause-sorts c = λ data_ rules t u s of chosen h.
    reaches_sort data_ of.sorted_sides of.rules_of_data of.well_formed s (chosen_reached chosen) h

pub returns-clause-variables : goal.returns-clause-variables
returns-clause-variables c = λ rules t u n s fine chosen o. chosen_occurs fine n s chosen o

pub returns-clause-normal : goal.returns-clause-normal
returns-clause-normal c = λ rules canon fine chosen.
    record { reached = λ t. chosen_rewritten (chosen t); irreducible = λ t. chosen_normal fine (chosen t) }
