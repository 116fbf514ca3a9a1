use Rattle.std.proofs.Common.{[], None}
use Rattle.spec_acceptance.proofs.DoingLemmas.{err_out}
use Rattle.spec_acceptance.proofs.ReadLemmas.{not_got}
use Rattle.spec_acceptance.proofs.RequiredLemmas.{read_requires}
use Rattle.spec_acceptance.proofs.required.accepted_requiring.Goals as goal

pub returns-in_err-text : goal.returns-in_err-text
returns-in_err-text g c =
    err_out _ c.in_err-text.field-0.0 _ _ c.from_residual.ensures.1 (not_got _ _ _ None [] _ c.in_err-text.ensures)

pub returns : goal.returns
returns g c =
    read_requires _ _ _ _ _ c.as_slice.result.now _ c.text_requiring.result c.in_ok-text.ensures c.as_slice.ensures.value
    c.text_requiring.ensures
