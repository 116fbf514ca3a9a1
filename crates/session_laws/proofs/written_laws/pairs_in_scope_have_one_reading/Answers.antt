use Rattle.session_laws.proofs.WrittenLemmas.{pairs_have_one_reading}
use Rattle.session_laws.proofs.written_laws.pairs_in_scope_have_one_reading.Goals as goal

pub returns : goal.returns
returns c = pairs_have_one_reading
