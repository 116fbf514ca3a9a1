use Rattle.type_flatten.proofs.AskedLemmas.{equations_faulty}
use Rattle.type_flatten.proofs.fault_laws.equations_are_faulty_where_caused.Goals as goal

pub returns : goal.returns
returns c = equations_faulty
