use Rattle.session_laws.proofs.PrintedStates.{states_print_on_one_line}
use Rattle.session_laws.proofs.state_laws.states_print_on_one_line.Goals as goal

pub returns : goal.returns
returns c =
    states_print_on_one_line c.accepted_names_are_of_text.ensures c.accepted_definitions_are_named.ensures
    c.sessions_follow_derivations.ensures c.moves_keep_names.ensures c.state_texts_are_of_names.ensures
