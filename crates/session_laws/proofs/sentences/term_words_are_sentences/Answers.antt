use Rattle.session_laws.proofs.TermSentences.{term_words_are_sentences}
use Rattle.session_laws.proofs.sentences.term_words_are_sentences.Goals as goal

pub returns : goal.returns
returns c = term_words_are_sentences
