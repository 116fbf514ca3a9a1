use Rattle.session_laws.proofs.PiecesCut.{texts_in_pieces_are_cut}
use Rattle.session_laws.proofs.pieces.texts_in_pieces_are_cut.Goals as goal

pub returns : goal.returns
returns c = texts_in_pieces_are_cut
