use Rattle.session_laws.proofs.BehaviourSentences.{behaviour_words_are_sentences}
use Rattle.session_laws.proofs.sentences.behaviour_words_are_sentences.Goals as goal

pub returns : goal.returns
returns c = behaviour_words_are_sentences
