use Rattle.session_laws.proofs.LabelsOnce.{read_once}
use Rattle.session_laws.proofs.labels.label_texts_are_read_once.Goals as goal

pub returns : goal.returns
returns c = read_once c.texts_are_unambiguous.ensures c.reading_comes_to_one_thing.ensures.terms
