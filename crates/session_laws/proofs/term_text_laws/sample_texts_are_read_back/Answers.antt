use Rattle.session_laws.proofs.SampleLemmas.{samples_read_back}
use Rattle.session_laws.proofs.term_text_laws.sample_texts_are_read_back.Goals as goal

pub returns : goal.returns
returns c = samples_read_back
