use Rattle.type_actualisation.proofs.DataLemmas.{data_well_formed}
use Rattle.type_actualisation.proofs.actualisation_laws.actualised_data_are_well_formed.Goals as goal

pub returns : goal.returns
returns c = data_well_formed
