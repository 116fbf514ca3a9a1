use Rattle.spec_acceptance.proofs.DoingLemmas.{err_out}
use Rattle.spec_acceptance.proofs.ReadLemmas.{founding_not_got, founding_whole}
use Rattle.spec_acceptance.proofs.founded.founded_under.Goals as goal

pub returns-in_err-text : goal.returns-in_err-text
returns-in_err-text g c = err_out _ c.in_err-text.field-0.0 _ _ c.from_residual.ensures.1 (founding_not_got _ _ _ _ _ c.in_err-text.ensures)

pub returns : goal.returns
returns g c =
    founding_whole _ _ _ _ _ c.as_slice.result.now _ c.founded.result c.in_ok-text.ensures c.as_slice.ensures.value c.founded.ensures
