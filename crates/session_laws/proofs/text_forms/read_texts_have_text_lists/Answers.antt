use Rattle.session_laws.proofs.ReadLists.{read_texts_have_text_lists}
use Rattle.session_laws.proofs.text_forms.read_texts_have_text_lists.Goals as goal

pub returns : goal.returns
returns c = read_texts_have_text_lists
