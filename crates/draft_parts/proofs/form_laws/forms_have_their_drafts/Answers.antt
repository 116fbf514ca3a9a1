use Rattle.draft_parts.proofs.FormLemmas.{forms}
use Rattle.draft_parts.proofs.form_laws.forms_have_their_drafts.Goals as goal

pub returns : goal.returns
returns c = forms
