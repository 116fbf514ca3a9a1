-- Each case by computation.
use Rattle.rewriting_theory.proofs.CaseLemmas.{variable_cases, argument_cases, rank_cases, left_cases, right_cases}
use Rattle.rewriting_theory.proofs.cases.order_cases.Goals as goal

pub returns-clause-variables : goal.returns-clause-variables
returns-clause-variables c = variable_cases

pub returns-clause-arguments : goal.returns-clause-arguments
returns-clause-arguments c = argument_cases

pub returns-clause-ranks : goal.returns-clause-ranks
returns-clause-ranks c = rank_cases

pub returns-clause-from_the_left : goal.returns-clause-from_the_left
returns-clause-from_the_left c = left_cases

pub returns-clause-from_the_right : goal.returns-clause-from_the_right
returns-clause-from_the_right c = right_cases
