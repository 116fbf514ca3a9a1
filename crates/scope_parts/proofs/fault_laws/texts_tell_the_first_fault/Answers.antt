use Rattle.scope_parts.proofs.TextsTell.{texts_tell}
use Rattle.scope_parts.proofs.fault_laws.texts_tell_the_first_fault.Goals as goal

pub returns : goal.returns
returns c = texts_tell
