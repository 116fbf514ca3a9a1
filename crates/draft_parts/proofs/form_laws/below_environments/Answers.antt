use Rattle.draft_parts.proofs.BelowLemmas.{below}
use Rattle.draft_parts.proofs.form_laws.below_environments.Goals as goal

pub returns : goal.returns
returns c = below
