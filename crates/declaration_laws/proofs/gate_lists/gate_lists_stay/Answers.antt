use Rattle.declaration_laws.proofs.GateListLemmas.{gate_lists_stay}
use Rattle.declaration_laws.proofs.gate_lists.gate_lists_stay.Goals as goal

pub returns : goal.returns
returns c = gate_lists_stay
