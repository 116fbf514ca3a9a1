-- By recursion on the rules.
use Rattle.rewriting_theory.proofs.MatchLemmas.{decide_first, first_step_once}
use Rattle.rewriting_theory.proofs.matching.first_steps_are_decided.Goals as goal

pub returns-clause-decided : goal.returns-clause-decided
returns-clause-decided c = λ rules t. decide_first rules t

pub returns-clause-unique : goal.returns-clause-unique
returns-clause-unique c = λ rules t u v well one two. first_step_once well one two
