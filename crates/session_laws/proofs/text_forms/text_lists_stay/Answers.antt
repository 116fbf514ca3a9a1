use Rattle.session_laws.proofs.TakenLemmas.{text_lists_stay}
use Rattle.session_laws.proofs.text_forms.text_lists_stay.Goals as goal

pub returns : goal.returns
returns c = text_lists_stay
