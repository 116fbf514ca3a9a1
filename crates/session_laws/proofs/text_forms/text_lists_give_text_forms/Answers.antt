use Rattle.session_laws.proofs.FormLemmas.{text_lists_give_text_forms}
use Rattle.session_laws.proofs.text_forms.text_lists_give_text_forms.Goals as goal

pub returns : goal.returns
returns c = text_lists_give_text_forms
