use Rattle.type_flatten.proofs.CauseLemmas.{unions_faulty}
use Rattle.type_flatten.proofs.fault_laws.unions_are_faulty_where_caused.Goals as goal

pub returns : goal.returns
returns c = unions_faulty
