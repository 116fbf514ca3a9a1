use Rattle.type_flatten.proofs.ReadingLemmas.{readings_refused}
use Rattle.type_flatten.proofs.fault_laws.readings_are_refused_where_caused.Goals as goal

pub returns : goal.returns
returns c = readings_refused
