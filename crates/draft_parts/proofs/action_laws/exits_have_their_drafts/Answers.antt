use Rattle.draft_parts.proofs.OpenLemmas.{exits_have}
use Rattle.draft_parts.proofs.action_laws.exits_have_their_drafts.Goals as goal

pub returns : goal.returns
returns c = exits_have
