use Rattle.draft_parts.proofs.ShadowLemmas.{raises}
use Rattle.draft_parts.proofs.form_laws.environments_raise.Goals as goal

pub returns : goal.returns
returns c = raises
