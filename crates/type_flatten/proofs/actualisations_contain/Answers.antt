use Rattle.type_flatten.proofs.ActualisationLemmas.{actualisations}
use Rattle.type_flatten.proofs.actualisations_contain.Goals as goal

pub returns : goal.returns
returns c = actualisations
