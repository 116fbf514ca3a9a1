use Rattle.session_laws.proofs.PiecesCut.{piece_examples}
use Rattle.session_laws.proofs.pieces.piece_examples_hold.Goals as goal

pub returns : goal.returns
returns c = piece_examples
