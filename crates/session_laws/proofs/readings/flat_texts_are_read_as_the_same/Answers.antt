use Rattle.session_laws.proofs.FlatReadings.{flat_texts_are_read_as_the_same}
use Rattle.session_laws.proofs.readings.flat_texts_are_read_as_the_same.Goals as goal

pub returns : goal.returns
returns c = flat_texts_are_read_as_the_same
