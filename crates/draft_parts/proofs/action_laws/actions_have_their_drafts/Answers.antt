use Rattle.draft_parts.proofs.OpenLemmas.{actions_have}
use Rattle.draft_parts.proofs.action_laws.actions_have_their_drafts.Goals as goal

pub returns : goal.returns
returns c = actions_have
