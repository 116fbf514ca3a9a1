use Rattle.type_flatten.proofs.TypesFine.{flattened_data}
use Rattle.type_flatten.proofs.flattened_data_laws.flattened_data_are_well_formed.Goals as goal

pub returns : goal.returns
returns c = flattened_data
