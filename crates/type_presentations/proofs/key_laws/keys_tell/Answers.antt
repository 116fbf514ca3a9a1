use Rattle.type_presentations.specs.KeyLaws.{keys_tell}
use Rattle.type_presentations.proofs.key_laws.keys_tell.Goals as goal

pub returns : goal.returns
returns c = keys_tell
