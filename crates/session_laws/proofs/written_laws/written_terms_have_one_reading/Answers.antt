use Rattle.session_laws.proofs.WrittenLemmas.{ground_terms_have_one_reading}
use Rattle.session_laws.proofs.written_laws.written_terms_have_one_reading.Goals as goal

pub returns : goal.returns
returns c = ground_terms_have_one_reading
