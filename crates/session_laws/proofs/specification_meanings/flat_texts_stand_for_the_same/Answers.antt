use Rattle.session_laws.proofs.FlatResolved.{flat_texts_stand_for_the_same}
use Rattle.session_laws.proofs.specification_meanings.flat_texts_stand_for_the_same.Goals as goal

pub returns : goal.returns
returns c = flat_texts_stand_for_the_same
