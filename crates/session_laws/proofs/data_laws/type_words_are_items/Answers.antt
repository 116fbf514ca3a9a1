use Rattle.session_laws.proofs.TypeSentences.{type_words_are_items}
use Rattle.session_laws.proofs.data_laws.type_words_are_items.Goals as goal

pub returns : goal.returns
returns c = type_words_are_items
