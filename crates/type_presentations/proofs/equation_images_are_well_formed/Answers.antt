use Rattle.type_presentations.proofs.EquationImageLemmas.{equation_images}
use Rattle.type_presentations.proofs.equation_images_are_well_formed.Goals as goal

pub returns : goal.returns
returns c = equation_images
