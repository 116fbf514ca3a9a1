use Rattle.declaration_laws.proofs.GateLemmas.{moves_stay_at_gates}
use Rattle.declaration_laws.proofs.gates.moves_stay_at_gates.Goals as goal

pub returns : goal.returns
returns c = moves_stay_at_gates
