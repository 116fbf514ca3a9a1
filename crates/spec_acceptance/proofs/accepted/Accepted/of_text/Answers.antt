use Rattle.spec_acceptance.proofs.DoingLemmas.{err_out}
use Rattle.spec_acceptance.proofs.ReadLemmas.{founds_out, start_out, state_there, finished}
use Rattle.spec_acceptance.proofs.accepted.Accepted.of_text.Goals as goal

pub valued-requires : goal.valued-requires
valued-requires g c = c.requires

pub started-requires : goal.started-requires
started-requires g c = state_there _ _ _ _ _ _ c.in_ok-known.ensures _ c.in_ok-whole.ensures

pub returns-in_err-known : goal.returns-in_err-known
returns-in_err-known g c =
    err_out _ c.in_err-known.field-0.0 _ _ c.from_residual.ensures.1 (founds_out _ _ _ _ _ _ c.in_err-known.ensures)

pub returns-in_err-whole : goal.returns-in_err-whole
returns-in_err-whole g c =
    err_out _ c.in_err-whole.field-0.0 _ _ c.from_residual-in_err-whole.ensures.1
    (start_out _ _ _ _ _ _ c.in_ok-known.ensures _ c.in_err-whole.ensures)

pub returns : goal.returns
returns g c = finished _ _ _ _ _ _ c.in_ok-known.ensures _ c.in_ok-whole.ensures c.started.result c.started.ensures
