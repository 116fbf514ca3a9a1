use Rattle.session_laws.proofs.ReadableLabels.{sessions_show_readable_labels}
use Rattle.session_laws.proofs.label_laws.sessions_show_readable_labels.Goals as goal

pub returns : goal.returns
returns c =
    sessions_show_readable_labels c.accepted_names_are_of_text.ensures c.data_are_well_formed.ensures
    c.sessions_follow_derivations.ensures c.moves_stay_at_gates.ensures c.texts_have_declared_gates.ensures c.menus_are_read_back.ensures
