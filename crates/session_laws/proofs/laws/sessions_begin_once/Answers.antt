use Rattle.session_laws.proofs.OneBeginning.{sessions_begin_once}
use Rattle.session_laws.proofs.laws.sessions_begin_once.Goals as goal

pub returns : goal.returns
returns c = sessions_begin_once c.data_are_well_formed.ensures
