use Rattle.session_laws.proofs.GivenWords.{given_names_are_words}
use Rattle.session_laws.proofs.texts.given_names_are_words.Goals as goal

pub returns : goal.returns
returns c = given_names_are_words
