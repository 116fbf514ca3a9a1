use Rattle.spec_acceptance.proofs.DoingLemmas.{err_out}
use Rattle.spec_acceptance.proofs.ReadLemmas.{not_got, read_whole}
use Rattle.spec_acceptance.proofs.accepted.Accepted.read.Goals as goal

pub of_text-requires : goal.of_text-requires
of_text-requires g c = c.requires

pub returns-in_err-text : goal.returns-in_err-text
returns-in_err-text g c = err_out _ c.in_err-text.field-0.0 _ _ c.from_residual.ensures.1 (not_got _ _ _ _ _ _ c.in_err-text.ensures)

pub returns : goal.returns
returns g c =
    read_whole _ _ _ _ _ c.as_slice.result.now _ _ c.of_text.result c.in_ok-text.ensures c.as_slice.ensures.value c.of_text.ensures
