use Rattle.type_flatten.proofs.CoincidingLemmas.{coinciding_images}
use Rattle.type_flatten.proofs.fault_laws.coinciding_images_are_decided.Goals as goal

pub returns : goal.returns
returns c = coinciding_images
