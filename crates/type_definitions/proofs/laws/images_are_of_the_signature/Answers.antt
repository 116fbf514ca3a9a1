use Rattle.type_definitions.proofs.ImageLemmas.{image_of_signature}
use Rattle.type_definitions.proofs.laws.images_are_of_the_signature.Goals as goal

pub returns : goal.returns
returns c = image_of_signature
