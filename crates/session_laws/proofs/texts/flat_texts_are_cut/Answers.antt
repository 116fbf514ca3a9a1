use Rattle.session_laws.proofs.FlatTexts.{flat_texts_are_cut}
use Rattle.session_laws.proofs.texts.flat_texts_are_cut.Goals as goal

pub returns : goal.returns
returns c = flat_texts_are_cut
