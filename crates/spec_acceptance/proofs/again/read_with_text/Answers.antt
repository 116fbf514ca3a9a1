use Rattle.std.proofs.Common.{[], None, refl}
use Rattle.spec_acceptance.proofs.AgainLemmas.{accepted_out, kept_with_text}
use Rattle.spec_acceptance.proofs.DoingLemmas.{err_out}
use Rattle.spec_acceptance.proofs.ReadLemmas.{not_got}
use Rattle.spec_acceptance.proofs.again.read_with_text.Goals as goal

pub of_text-requires : goal.of_text-requires
of_text-requires g c = refl

pub returns-in_err-text : goal.returns-in_err-text
returns-in_err-text g c =
    err_out _ c.in_err-text.field-0.0 _ _ c.from_residual.ensures.1 (not_got _ _ _ None [] _ c.in_err-text.ensures)

pub returns-in_err-accepted : goal.returns-in_err-accepted
returns-in_err-accepted g c =
    err_out _ c.in_err-accepted.field-0.0 _ _ c.from_residual-in_err-accepted.ensures.1
    (accepted_out _ _ _ _ _ c.as_slice.result.now _ c.in_ok-text.ensures c.as_slice.ensures.value c.in_err-accepted.ensures)

pub returns : goal.returns
returns g c =
    kept_with_text _ _ _ _ _ c.as_slice.result.now _ c.in_ok-text.ensures c.as_slice.ensures.value refl c.in_ok-accepted.ensures
