use Rattle.spec_acceptance.specs.declared.not_accepted.NotAccepted.TheVariants.{NoMemory}
use Rattle.spec_acceptance.proofs.DoingLemmas.{err_out}
use Rattle.spec_acceptance.proofs.KnownLemmas.{flat_fine, flat_faulty}
use Rattle.spec_acceptance.proofs.RequiredLemmas.{kept_beside}
use Rattle.spec_acceptance.proofs.required.data_requiring.Goals as goal

pub returns-in_err-require-in-Ok-clause-known : goal.returns-in_err-require-in-Ok-clause-known
returns-in_err-require-in-Ok-clause-known c = err_out _ NoMemory _ _ c.from_residual.ensures.1 tt

pub returns-in-Ok-clause-known : goal.returns-in-Ok-clause-known
returns-in-Ok-clause-known c =
    flat_fine c.as_slice.result.now c.args.gathered.types.items c.args.gathered.libraries c.in-Ok.flat c.as_slice.ensures.value
    c.in-Ok.ensures

pub returns-in-Ok-clause-required : goal.returns-in-Ok-clause-required
returns-in-Ok-clause-required c =
    kept_beside c.as_slice-in-Ok-2.result.now c.args.gathered.types.items c.as_slice-in-Ok.result.now c.args.gathered.libraries.items
    c.require.new.required c.as_slice-in-Ok-2.ensures.value c.as_slice-in-Ok.ensures.value c.in_ok-require-in-Ok.ensures

pub returns-clause-known : goal.returns-clause-known
returns-clause-known c =
    flat_faulty c.as_slice.result.now c.args.gathered.types.items c.args.gathered.libraries c.in-Err.fault c.types_refusal.result
    c.as_slice.ensures.value c.in-Err.ensures c.types_refusal.ensures
