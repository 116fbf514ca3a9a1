use Rattle.session_laws.proofs.LabelLemmas.{read_back}
use Rattle.session_laws.proofs.labels.label_texts_are_read_back.Goals as goal

pub returns : goal.returns
returns c = read_back c.label_texts_are_read_once.ensures
