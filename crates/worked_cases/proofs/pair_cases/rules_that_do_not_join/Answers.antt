-- By the tests.
use Rattle.worked_cases.proofs.PairCaseLemmas.{two_result_cases, twice_cases}
use Rattle.worked_cases.proofs.pair_cases.rules_that_do_not_join.Goals as goal

pub returns-clause-two_results : goal.returns-clause-two_results
returns-clause-two_results c = two_result_cases

pub returns-clause-twice : goal.returns-clause-twice
returns-clause-twice c = twice_cases
