-- Operations without a twin that agree in the rest agree in their results.
use Rattle.lotos_base.proofs.SignatureLemmas.{profiles_tell}
use Rattle.lotos_base.proofs.signatures.profiles_tell_operations.Goals as goal

pub returns : goal.returns
returns c = profiles_tell
