use Rattle.type_flatten.proofs.RenamingCauseLemmas.{renamings_faulty}
use Rattle.type_flatten.proofs.fault_laws.renamings_are_faulty_where_caused.Goals as goal

pub returns : goal.returns
returns c = renamings_faulty
