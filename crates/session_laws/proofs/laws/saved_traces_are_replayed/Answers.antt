use Rattle.session_laws.proofs.SavedTraces.{saved_traces_are_replayed}
use Rattle.session_laws.proofs.laws.saved_traces_are_replayed.Goals as goal

pub returns : goal.returns
returns c =
    saved_traces_are_replayed c.lines_keep_within.ensures c.lines_lead_on.ensures c.sessions_begin_once.ensures
    c.accepted_names_are_of_text.ensures c.accepted_definitions_are_named.ensures c.moves_keep_names.ensures
    c.traces_are_replayed.ensures
