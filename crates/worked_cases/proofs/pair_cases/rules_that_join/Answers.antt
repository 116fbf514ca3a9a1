-- By the tests.
use Rattle.worked_cases.proofs.PairCaseLemmas.{sum_cases, copy_cases, one_rule_cases, meet_cases, apart_cases, right_status_cases}
use Rattle.worked_cases.proofs.pair_cases.rules_that_join.Goals as goal

pub returns-clause-sums : goal.returns-clause-sums
returns-clause-sums c = sum_cases

pub returns-clause-copies : goal.returns-clause-copies
returns-clause-copies c = copy_cases

pub returns-clause-one_rule : goal.returns-clause-one_rule
returns-clause-one_rule c = one_rule_cases

pub returns-clause-meets : goal.returns-clause-meets
returns-clause-meets c = meet_cases

pub returns-clause-apart : goal.returns-clause-apart
returns-clause-apart c = apart_cases

pub returns-clause-right_status : goal.returns-clause-right_status
returns-clause-right_status c = right_status_cases
