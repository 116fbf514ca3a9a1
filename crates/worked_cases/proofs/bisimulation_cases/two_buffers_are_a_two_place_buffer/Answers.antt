use Rattle.std.proofs.Common.{refl}
use Rattle.certificate_theory.specs.Certificate.{accepted}
use Rattle.certificate_theory.specs.BisimulationLaws.{IsComparable}
use Rattle.certificate_theory.specs.Checking.{CertificateComesTo, is_accepted}
use Rattle.worked_cases.specs.BehaviourSamples.{sample_signature}
use Rattle.worked_cases.specs.BisimulationCases.{two_buffers, two_place_buffer, buffers, buffer_lines}
use Rattle.worked_cases.proofs.SampleCanon.{sample_is_canon}
use Rattle.worked_cases.proofs.SampleSignature.{sample_signature_is_well_formed}
use Rattle.worked_cases.proofs.WellFormedTests.{closed_behaviour, well_formed_specification}
use Rattle.worked_cases.proofs.BufferPairs.{buffer_reading, buffers_matched, buffers_read}
use Rattle.worked_cases.proofs.bisimulation_cases.two_buffers_are_a_two_place_buffer.Goals as goal

buffers_comparable : IsComparable buffers
buffers_comparable = record {
  left = record {
    signature = sample_signature_is_well_formed;
    is_canon = sample_is_canon;
    well_formed = well_formed_specification sample_signature two_buffers refl;
    closed = closed_behaviour sample_signature two_buffers buffers.left_start refl;
  };
  right = record {
    signature = sample_signature_is_well_formed;
    is_canon = sample_is_canon;
    well_formed = well_formed_specification sample_signature two_place_buffer refl;
    closed = closed_behaviour sample_signature two_place_buffer buffers.right_start refl;
  };
}

buffers_accepted : CertificateComesTo buffers buffer_lines (accepted 4)
buffers_accepted = is_accepted buffer_reading 4 buffers_read (5, refl) buffers_matched refl

pub returns : goal.returns
returns c = record {
  comparable = buffers_comparable;
  accepted_with_four = buffers_accepted;
  bisimilar = c.accepted_certificates_show_bisimilarity.ensures buffers buffer_lines 4 buffers_comparable buffers_accepted;
}
