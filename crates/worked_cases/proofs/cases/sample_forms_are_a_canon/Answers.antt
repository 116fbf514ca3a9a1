use Rattle.std.proofs.Common.{refl}
use Rattle.lotos_base.specs.Equation.{IsEquationOver}
use Rattle.behaviour_semantics.proofs.ListLemmas.{Every-at}
use Rattle.worked_cases.specs.BehaviourSamples.{sample_signature, sample_data}
use Rattle.worked_cases.proofs.EquationTests.{are_equations_over}
use Rattle.worked_cases.proofs.SampleCanon.{sample_is_canon}
use Rattle.worked_cases.proofs.SampleSignature.{sample_signature_is_well_formed}
use Rattle.worked_cases.proofs.cases.sample_forms_are_a_canon.Goals as goal

pub returns : goal.returns
returns c = record {
  well_formed = record {
    signature = sample_signature_is_well_formed;
    equations = λ e is. Every-at (IsEquationOver sample_signature) sample_data.equations is.0 e
        (are_equations_over sample_signature sample_data.equations refl) is.1;
  };
  canon = sample_is_canon;
  two_and_one = refl;
  one_below_two = refl;
  two_not_below_two = refl;
  open_stays = refl;
}
