-- Each case by computation.
use Rattle.rewriting_theory.proofs.OrientationCaseLemmas.{commutative_cases, group_cases, copied_cases, ranked_cases, status_cases, addition_cases, descent_cases}
use Rattle.rewriting_theory.proofs.cases.orientation_cases.Goals as goal

pub returns-clause-commutative : goal.returns-clause-commutative
returns-clause-commutative c = commutative_cases

pub returns-clause-groups : goal.returns-clause-groups
returns-clause-groups c = group_cases

pub returns-clause-copies : goal.returns-clause-copies
returns-clause-copies c = copied_cases

pub returns-clause-ranks : goal.returns-clause-ranks
returns-clause-ranks c = ranked_cases

pub returns-clause-statuses : goal.returns-clause-statuses
returns-clause-statuses c = status_cases

pub returns-clause-addition : goal.returns-clause-addition
returns-clause-addition c = addition_cases

pub returns-clause-descents : goal.returns-clause-descents
returns-clause-descents c = descent_cases
