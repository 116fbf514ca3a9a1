use Rattle.session_laws.proofs.FlatDepths.{flat_texts_are_no_deeper}
use Rattle.session_laws.proofs.FlatReadBack.{flattened_texts_stand_for_the_same}
use Rattle.session_laws.proofs.flat_laws.flattened_texts_stand_for_the_same.Goals as goal

pub returns : goal.returns
returns c =
    flattened_texts_stand_for_the_same flat_texts_are_no_deeper c.flattened_data_are_of_text.ensures c.flat_texts_are_read_back.ensures
