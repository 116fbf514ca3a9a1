use Rattle.type_flatten.proofs.CauseLemmas.{declarations_faulty}
use Rattle.type_flatten.proofs.fault_laws.declarations_are_faulty_where_caused.Goals as goal

pub returns : goal.returns
returns c = declarations_faulty
