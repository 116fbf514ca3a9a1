use Rattle.session_laws.proofs.CuttingLaws.{texts_have_one_cutting}
use Rattle.session_laws.proofs.tokens.texts_have_one_cutting.Goals as goal

pub returns : goal.returns
returns c = texts_have_one_cutting
