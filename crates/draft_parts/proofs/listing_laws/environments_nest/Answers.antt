use Rattle.draft_parts.proofs.NestedLemmas.{nested}
use Rattle.draft_parts.proofs.listing_laws.environments_nest.Goals as goal

pub returns : goal.returns
returns c = nested
