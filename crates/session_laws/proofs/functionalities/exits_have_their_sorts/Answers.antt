use Rattle.session_laws.proofs.EndingMoves.{exits_have_sorts}
use Rattle.session_laws.proofs.functionalities.exits_have_their_sorts.Goals as goal

pub returns : goal.returns
returns c = exits_have_sorts
