use Rattle.refusal_lines.proofs.OutcomeLemmas.{start_values_are_ground}
use Rattle.refusal_lines.proofs.start_laws.start_values_are_ground.Goals as goal

pub returns : goal.returns
returns c = start_values_are_ground
