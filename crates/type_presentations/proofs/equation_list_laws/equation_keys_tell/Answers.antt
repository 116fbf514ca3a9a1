use Rattle.type_presentations.proofs.EquationKeyLemmas.{equation_keys_tell}
use Rattle.type_presentations.proofs.equation_list_laws.equation_keys_tell.Goals as goal

pub returns : goal.returns
returns c = equation_keys_tell
