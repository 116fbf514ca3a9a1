-- By recursion on the equations.
use Rattle.path_order.proofs.RuleTestLemmas.{test_gives, given_passes}
use Rattle.path_order.proofs.laws.given_rules_are_tested.Goals as goal

pub returns : goal.returns
returns c = λ precedence n equations rules. (test_gives precedence n equations rules, given_passes)
