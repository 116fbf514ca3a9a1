use Rattle.session_laws.proofs.ReadBack.{flat_data_are_read_back}
use Rattle.session_laws.proofs.data_laws.flat_data_are_read_back.Goals as goal

pub returns : goal.returns
returns c = flat_data_are_read_back
