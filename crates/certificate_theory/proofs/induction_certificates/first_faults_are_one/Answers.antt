-- A line comes to one thing, or is wrong in one way, and never both.
use Rattle.certificate_theory.proofs.FaultLemmas.{first_fault_once, right_has_no_fault}
use Rattle.certificate_theory.proofs.induction_certificates.first_faults_are_one.Goals as goal

pub returns-clause-one : goal.returns-clause-one
returns-clause-one c = first_fault_once

pub returns-clause-none : goal.returns-clause-none
returns-clause-none c = right_has_no_fault
