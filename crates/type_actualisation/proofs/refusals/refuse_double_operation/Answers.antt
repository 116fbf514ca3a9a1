use Rattle.std.proofs.Common.{ap}
use Rattle.type_definitions.specs.TypeFault.{double_operation}
use Rattle.type_renaming.specs.CameView.{place_kept}
use Rattle.type_renaming.specs.FaultPlaces.{fault_at}
use Rattle.type_actualisation.proofs.FaultLemmas.{found_exactly}
use Rattle.type_actualisation.proofs.refusals.refuse_double_operation.Goals as goal

pub returns-in_default : goal.returns-in_default
returns-in_default c = ap (λ o. fault_at double_operation (place_kept o)) c.in_default.is

pub returns : goal.returns
returns c =
    found_exactly (fault_at double_operation (place_kept c.args.kept.now)) _ c.double_operation.result
    (ap (λ o. fault_at double_operation (place_kept o)) c.in-Some.is) c.double_operation.ensures
