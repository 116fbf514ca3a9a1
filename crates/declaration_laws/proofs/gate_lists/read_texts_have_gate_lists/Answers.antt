use Rattle.declaration_laws.proofs.GateListLemmas.{read_texts_have_gate_lists}
use Rattle.declaration_laws.proofs.gate_lists.read_texts_have_gate_lists.Goals as goal

pub returns : goal.returns
returns c = read_texts_have_gate_lists
