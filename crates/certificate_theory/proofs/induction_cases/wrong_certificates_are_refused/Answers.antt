-- By computation.
use Rattle.certificate_theory.proofs.CaseProofs.{refused_cases}
use Rattle.certificate_theory.proofs.SmallSortProofs.{empty_sort_cases, single_sort_cases}
use Rattle.certificate_theory.proofs.induction_cases.wrong_certificates_are_refused.Goals as goal

pub returns-clause-addition : goal.returns-clause-addition
returns-clause-addition c = refused_cases

pub returns-clause-empty_sort : goal.returns-clause-empty_sort
returns-clause-empty_sort c = empty_sort_cases

pub returns-clause-single_sort : goal.returns-clause-single_sort
returns-clause-single_sort c = single_sort_cases
