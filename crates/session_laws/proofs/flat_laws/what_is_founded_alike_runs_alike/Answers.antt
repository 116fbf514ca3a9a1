use Rattle.session_laws.proofs.AlikeLemmas.{what_is_founded_alike_runs_alike}
use Rattle.session_laws.proofs.flat_laws.what_is_founded_alike_runs_alike.Goals as goal

pub returns : goal.returns
returns c = what_is_founded_alike_runs_alike
