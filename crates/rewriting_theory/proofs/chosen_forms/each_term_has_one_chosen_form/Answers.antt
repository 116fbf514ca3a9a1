-- By the bound of the chains from the term, and by recursion on the derivation.
use Rattle.rewriting_theory.proofs.ChosenLemmas.{chosen_one}
use Rattle.rewriting_theory.proofs.PublicLemmas.{chosen_form}
use Rattle.rewriting_theory.proofs.chosen_forms.each_term_has_one_chosen_form.Goals as goal

pub returns-clause-exist : goal.returns-clause-exist
returns-clause-exist c = λ rules t ends. chosen_form rules ends t

pub returns-clause-unique : goal.returns-clause-unique
returns-clause-unique c = λ rules t u v well one two. chosen_one well one two
