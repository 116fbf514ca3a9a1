use Rattle.session_laws.proofs.MenuLemmas.{menus_read_back}
use Rattle.session_laws.proofs.labels.menus_are_read_back.Goals as goal

pub returns : goal.returns
returns c =
    menus_read_back c.label_texts_are_read_back.ensures c.transitions_are_derived.ensures c.targets_are_well_formed.ensures
    c.moves_stay_at_gates.ensures c.entries_are_solved.ensures c.entries_stay_at_gates.ensures
    c.solving_names_no_behaviour.ensures
