use Rattle.session_laws.proofs.TypeTexts.{type_texts_are_words}
use Rattle.session_laws.proofs.data_laws.type_texts_are_words.Goals as goal

pub returns : goal.returns
returns c = type_texts_are_words
