use Rattle.session_laws.proofs.BehaviourTexts.{behaviour_texts_are_words}
use Rattle.session_laws.proofs.pieces.behaviour_texts_are_words.Goals as goal

pub returns : goal.returns
returns c = behaviour_texts_are_words
