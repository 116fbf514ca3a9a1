use Rattle.type_flatten.proofs.CauseLemmas.{pairs_faulty}
use Rattle.type_flatten.proofs.fault_laws.pairs_are_faulty_where_caused.Goals as goal

pub returns : goal.returns
returns c = pairs_faulty
