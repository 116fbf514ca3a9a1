use Rattle.session_laws.proofs.CuttingLaws.{tokens_are_of_cuttings}
use Rattle.session_laws.proofs.tokens.tokens_are_of_cuttings.Goals as goal

pub returns : goal.returns
returns c = tokens_are_of_cuttings
