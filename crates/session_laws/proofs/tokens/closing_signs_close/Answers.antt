use Rattle.session_laws.proofs.CuttingLaws.{closing_signs_close}
use Rattle.session_laws.proofs.tokens.closing_signs_close.Goals as goal

pub returns : goal.returns
returns c = closing_signs_close
