use Rattle.spec_acceptance.proofs.WholeLemmas.{scopes_are_decided}
use Rattle.spec_acceptance.proofs.laws.scopes_are_decided.Goals as goal

pub returns : goal.returns
returns c = scopes_are_decided
