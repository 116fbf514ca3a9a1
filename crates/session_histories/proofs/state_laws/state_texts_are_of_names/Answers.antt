use Rattle.session_histories.proofs.TextLemmas.{state_texts_are_of_names}
use Rattle.session_histories.proofs.state_laws.state_texts_are_of_names.Goals as goal

pub returns : goal.returns
returns c = state_texts_are_of_names
