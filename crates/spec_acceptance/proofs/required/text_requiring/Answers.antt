use Rattle.std.proofs.Common.{[], None, refl}
use Rattle.spec_acceptance.proofs.DoingLemmas.{err_out}
use Rattle.spec_acceptance.proofs.ReadLemmas.{founds_out, start_out, state_there, finished_requiring}
use Rattle.spec_acceptance.proofs.required.text_requiring.Goals as goal

pub valued-requires : goal.valued-requires
valued-requires g c = refl

pub started-requires : goal.started-requires
started-requires g c = state_there _ _ _ None [] _ c.in_ok-known.ensures.founds _ c.in_ok-whole.ensures

pub returns-in_err-known : goal.returns-in_err-known
returns-in_err-known g c =
    err_out _ c.in_err-known.field-0.0 _ _ c.from_residual.ensures.1 (founds_out _ _ _ None [] _ c.in_err-known.ensures)

pub returns-in_err-whole : goal.returns-in_err-whole
returns-in_err-whole g c =
    err_out _ c.in_err-whole.field-0.0 _ _ c.from_residual-in_err-whole.ensures.1
    (start_out _ _ _ None [] _ c.in_ok-known.ensures.founds _ c.in_err-whole.ensures)

pub returns : goal.returns
returns g c =
    finished_requiring _ _ _ None [] _ c.in_ok-known.ensures.founds _ c.in_ok-whole.ensures c.started.result _
    c.in_ok-known.ensures.holds c.started.ensures
