use Rattle.draft_parts.proofs.RowLemmas.{rows}
use Rattle.draft_parts.proofs.form_laws.rows_have_their_drafts.Goals as goal

pub returns : goal.returns
returns c = rows
