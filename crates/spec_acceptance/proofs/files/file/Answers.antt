use Rattle.refusal_lines.proofs.HandedOn.{wanted_uncalled, wanted_by_get}
use Rattle.spec_acceptance.specs.declared.not_accepted.NotAccepted.TheVariants.{NoMemory}
use Rattle.spec_acceptance.proofs.DoingLemmas.{err_out}
use Rattle.spec_acceptance.proofs.files.file.Goals as goal

pub returns-in_err-kept : goal.returns-in_err-kept
returns-in_err-kept g c = err_out _ NoMemory _ _ c.from_residual.ensures.1 (wanted_uncalled _)

pub returns-in-Err-NoMemory : goal.returns-in-Err-NoMemory
returns-in-Err-NoMemory g c =
    wanted_by_get (Unit {0}) _ _ c.in-Err-NoMemory.field-0 c.in-Err-NoMemory.ensures.texts c.in-Err-NoMemory.field-0-is
    c.in-Err-NoMemory.ensures.counts c.in-Err-NoMemory.ensures.calls
