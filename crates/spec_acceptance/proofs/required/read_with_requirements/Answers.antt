use Rattle.spec_acceptance.proofs.DoingLemmas.{err_out}
use Rattle.spec_acceptance.proofs.required.read_with_requirements.Goals as goal

pub returns-in_err-accepted : goal.returns-in_err-accepted
returns-in_err-accepted g c =
    err_out _ c.in_err-accepted.field-0.0 _ _ c.from_residual.ensures.1 c.in_err-accepted.ensures

pub returns : goal.returns
returns g c = record {
  acceptance = c.in_ok-accepted.ensures.acceptance;
  came = c.in_ok-accepted.ensures.came;
  holds = record { holds = c.in_ok-accepted.ensures.holds; required = c.in_ok-accepted.ensures.requires_so };
}
