use Rattle.type_flatten.proofs.RenamingLemmas.{renamings}
use Rattle.type_flatten.proofs.renamings_are_images.Goals as goal

pub returns : goal.returns
returns c = renamings
