use Rattle.session_laws.proofs.ReadBackLemmas.{texts_read_back_are_accepted}
use Rattle.session_laws.proofs.flat_laws.texts_read_back_are_accepted.Goals as goal

pub returns : goal.returns
returns c = texts_read_back_are_accepted c.no_disagreement_is_agreement.ensures
