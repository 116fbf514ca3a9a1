use Rattle.type_definitions.proofs.ImageLemmas.{keeps_profiles}
use Rattle.type_definitions.proofs.laws.maps_keep_profiles.Goals as goal

pub returns : goal.returns
returns c = keeps_profiles
