use Rattle.std.proofs.Common.{ap}
use Rattle.type_definitions.specs.TypeFault.{too_large}
use Rattle.type_renaming.specs.CameView.{place_kept}
use Rattle.type_renaming.specs.FaultPlaces.{fault_at}
use Rattle.type_actualisation.proofs.FaultLemmas.{found_exactly}
use Rattle.type_actualisation.proofs.refusals.refuse_too_many.Goals as goal

pub returns-in_default : goal.returns-in_default
returns-in_default c = ap (λ o. fault_at too_large (place_kept o)) c.in_default.is

pub returns : goal.returns
returns c =
    found_exactly (fault_at too_large (place_kept c.args.kept.now)) _ c.too_large.result
    (ap (λ o. fault_at too_large (place_kept o)) c.in-Some.is) c.too_large.ensures
