use Rattle.session_laws.proofs.FlatDepths.{flat_texts_are_no_deeper}
use Rattle.session_laws.proofs.specification_meanings.flat_texts_are_no_deeper.Goals as goal

pub returns : goal.returns
returns c = flat_texts_are_no_deeper
