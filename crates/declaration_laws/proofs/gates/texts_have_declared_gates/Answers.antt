use Rattle.declaration_laws.proofs.DeclaredLemmas.{texts_have_declared_gates}
use Rattle.declaration_laws.proofs.gates.texts_have_declared_gates.Goals as goal

pub returns : goal.returns
returns c = texts_have_declared_gates
