use Rattle.session_laws.proofs.LineBounds.{lines_keep_within}
use Rattle.session_laws.proofs.laws.lines_keep_within.Goals as goal

pub returns : goal.returns
returns c = lines_keep_within
