-- By recursion on the path, and on the step.
use Rattle.rewriting_theory.proofs.PlaceLemmas.{step_of_link, link_of_step}
use Rattle.rewriting_theory.proofs.rewriting.links_are_steps.Goals as goal

pub returns : goal.returns
returns c = λ rules t u. ((λ link. step_of_link link), (λ step. link_of_step step))
