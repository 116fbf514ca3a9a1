use Rattle.draft_parts.proofs.ScopeLemmas.{put_parts}
use Rattle.draft_parts.proofs.form_laws.put_parts_are_in_scope.Goals as goal

pub returns : goal.returns
returns c = put_parts
