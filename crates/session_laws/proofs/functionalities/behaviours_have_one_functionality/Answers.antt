use Rattle.session_laws.proofs.Ending.{one_functionality}
use Rattle.session_laws.proofs.functionalities.behaviours_have_one_functionality.Goals as goal

pub returns : goal.returns
returns c = one_functionality
