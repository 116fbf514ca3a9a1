-- By recursion on the step.
use Rattle.rewriting_theory.proofs.PlaceLemmas.{step_of_link, link_of_step}
use Rattle.rewriting_theory.proofs.StepLemmas.{step_substituted}
use Rattle.rewriting_theory.proofs.LinkSteps.{rewriting_inside}
use Rattle.rewriting_theory.proofs.SortedSteps.{step_sort, step_occurs}
use Rattle.rewriting_theory.proofs.normal_forms.rewriting_keeps_terms.Goals as goal

pub returns-clause-substitution : goal.returns-clause-substitution
returns-clause-substitution c = λ rules values t u link. link_of_step (step_substituted values (step_of_link link))

pub returns-clause-contexts : goal.returns-clause-contexts
returns-clause-contexts c = rewriting_inside

pub returns-clause-sorts : goal.returns-clause-sorts
returns-clause-sorts c = λ data_ rules t u s of link h.
    step_sort data_ of.sorted_sides of.rules_of_data of.well_formed s (step_of_link link) h

pub returns-clause-variables : goal.returns-clause-variables
returns-clause-variables c = λ rules t u n s fine link o. step_occurs fine n s (step_of_link link) o
