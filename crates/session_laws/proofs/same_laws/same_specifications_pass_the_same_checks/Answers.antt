use Rattle.session_laws.proofs.SameChecks.{pass_the_same_checks}
use Rattle.session_laws.proofs.same_laws.same_specifications_pass_the_same_checks.Goals as goal

pub returns : goal.returns
returns c = pass_the_same_checks c.no_disagreement_is_agreement.ensures
