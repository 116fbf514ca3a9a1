use Rattle.session_laws.proofs.FlatLemmas.{flat_texts_run_alike}
use Rattle.session_laws.proofs.flat_laws.flat_texts_run_alike.Goals as goal

pub returns : goal.returns
returns c =
    flat_texts_run_alike c.no_disagreement_is_agreement.ensures c.sessions_begin_once.ensures c.flattened_texts_stand_for_the_same.ensures
