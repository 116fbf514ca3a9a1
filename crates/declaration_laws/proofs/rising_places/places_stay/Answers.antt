use Rattle.declaration_laws.proofs.ReadLemmas.{places_stay}
use Rattle.declaration_laws.proofs.rising_places.places_stay.Goals as goal

pub returns : goal.returns
returns c = places_stay
