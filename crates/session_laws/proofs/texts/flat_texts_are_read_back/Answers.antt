use Rattle.session_laws.proofs.FlatTextReadings.{flat_texts_are_read_back}
use Rattle.session_laws.proofs.texts.flat_texts_are_read_back.Goals as goal

pub returns : goal.returns
returns c = flat_texts_are_read_back
