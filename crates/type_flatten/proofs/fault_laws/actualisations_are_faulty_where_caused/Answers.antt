use Rattle.type_flatten.proofs.ActualisationCauseLemmas.{actualisations_faulty}
use Rattle.type_flatten.proofs.fault_laws.actualisations_are_faulty_where_caused.Goals as goal

pub returns : goal.returns
returns c = actualisations_faulty
