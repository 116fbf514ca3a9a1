use Rattle.spec_acceptance.proofs.KnownLemmas.{flat_fine, flat_faulty}
use Rattle.spec_acceptance.proofs.types.data.Goals as goal

pub returns-in-Ok : goal.returns-in-Ok
returns-in-Ok c =
    flat_fine c.as_slice.result.now c.args.gathered.types.items c.args.gathered.libraries c.in-Ok.flat c.as_slice.ensures.value
    c.in-Ok.ensures

pub returns : goal.returns
returns c =
    flat_faulty c.as_slice.result.now c.args.gathered.types.items c.args.gathered.libraries c.in-Err.fault c.types_refusal.result
    c.as_slice.ensures.value c.in-Err.ensures c.types_refusal.ensures
