use Rattle.type_flatten.proofs.FlatteningLemmas.{types_faulty}
use Rattle.type_flatten.proofs.fault_laws.types_are_faulty_where_caused.Goals as goal

pub returns : goal.returns
returns c = types_faulty
