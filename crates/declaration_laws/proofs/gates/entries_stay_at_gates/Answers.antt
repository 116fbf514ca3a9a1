use Rattle.declaration_laws.proofs.EntryLemmas.{entries_stay_at_gates}
use Rattle.declaration_laws.proofs.gates.entries_stay_at_gates.Goals as goal

pub returns : goal.returns
returns c = entries_stay_at_gates
