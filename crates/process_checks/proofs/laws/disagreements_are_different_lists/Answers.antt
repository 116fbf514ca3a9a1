use Rattle.process_checks.proofs.AgreementLemmas.{definitions_agree, signs_agree}
use Rattle.process_checks.proofs.laws.disagreements_are_different_lists.Goals as goal

pub returns-clause-signs : goal.returns-clause-signs
returns-clause-signs c = signs_agree

pub returns-clause-definitions : goal.returns-clause-definitions
returns-clause-definitions c = definitions_agree
