-- A renaming of a lemma holds.
use Rattle.certificate_theory.proofs.RequirementLemmas.{met_holds, met_once, met_not_open}
use Rattle.certificate_theory.proofs.induction_certificates.met_requirements_hold.Goals as goal

pub returns-clause-hold : goal.returns-clause-hold
returns-clause-hold c = met_holds

pub returns-clause-one : goal.returns-clause-one
returns-clause-one c = met_once

pub returns-clause-not_open : goal.returns-clause-not_open
returns-clause-not_open c = met_not_open
