use Rattle.session_laws.proofs.RunLines.{run_lines_are_answered}
use Rattle.session_laws.proofs.laws.run_lines_are_answered.Goals as goal

pub returns : goal.returns
returns c = run_lines_are_answered
