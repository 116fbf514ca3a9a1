use Rattle.type_flatten.proofs.CycleLemmas.{names_faulty}
use Rattle.type_flatten.proofs.fault_laws.names_are_faulty_where_caused.Goals as goal

pub returns : goal.returns
returns c = names_faulty
