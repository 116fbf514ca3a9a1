use Rattle.session_laws.proofs.WrittenLemmas.{terms_have_one_reading}
use Rattle.session_laws.proofs.written_laws.terms_in_scope_have_one_reading.Goals as goal

pub returns : goal.returns
returns c = terms_have_one_reading
