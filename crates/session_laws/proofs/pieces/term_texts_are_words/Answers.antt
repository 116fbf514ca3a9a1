use Rattle.session_laws.proofs.TermTexts.{term_texts_are_words}
use Rattle.session_laws.proofs.pieces.term_texts_are_words.Goals as goal

pub returns : goal.returns
returns c = term_texts_are_words
