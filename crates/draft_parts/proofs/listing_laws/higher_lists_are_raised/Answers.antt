use Rattle.draft_parts.proofs.HigherLemmas.{higher_raised}
use Rattle.draft_parts.proofs.listing_laws.higher_lists_are_raised.Goals as goal

pub returns : goal.returns
returns c = higher_raised
