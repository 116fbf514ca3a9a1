use Rattle.session_histories.proofs.MovedNames.{moves_keep_names}
use Rattle.session_histories.proofs.state_laws.moves_keep_names.Goals as goal

pub returns : goal.returns
returns c = moves_keep_names
