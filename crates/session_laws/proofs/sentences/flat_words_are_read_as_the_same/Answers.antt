use Rattle.session_laws.proofs.SpecificationSentences.{flat_words_are_read_as_the_same}
use Rattle.session_laws.proofs.sentences.flat_words_are_read_as_the_same.Goals as goal

pub returns : goal.returns
returns c = flat_words_are_read_as_the_same
