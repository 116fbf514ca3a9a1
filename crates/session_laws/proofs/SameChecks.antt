-- Same specifications over same data pass the same checks.
use Rattle.behaviour_tree.specs.DefinitionView.{specification_of}
use Rattle.certificate_theory.proofs.InterchangeableData.{signatures_agree, data_turned}
use Rattle.declaration_laws.proofs.SameReadings.{reading_too}
use Rattle.session_laws.specs.AgreementLaws.{NoDisagreementIsAgreement}
use Rattle.session_laws.specs.SameChecksLaws.{SameSpecificationsPassTheSameChecks}
use Rattle.session_laws.proofs.SameFunctionalities.{agree_over, disagreements_over}
use Rattle.session_laws.proofs.SameMenus.{turned}
use Rattle.session_laws.proofs.SameOrders.{precedence_over, opened_over}
use Rattle.session_laws.proofs.SameStarts.{starts_over, start_fault_over}

pub pass_the_same_checks : NoDisagreementIsAgreement → SameSpecificationsPassTheSameChecks
pass_the_same_checks laws = record {
  functionalities = agree_over;
  disagreements = λ data_ other one second same alike over also. (
    disagreements_over laws data_ other one second same alike over also,
    disagreements_over laws other data_ second one (data_turned data_ other same)
        (turned (specification_of one) (specification_of second) alike) also over,
  );
  precedences = λ data_ other items precedence same.
      precedence_over data_.signature other.signature (signatures_agree data_ other same) items precedence;
  rules = opened_over;
  readings = λ data_ other scope w expected outcome same.
      reading_too data_.signature other.signature (signatures_agree data_ other same) scope w expected outcome;
  starts = starts_over;
  start_faults = start_fault_over;
}
