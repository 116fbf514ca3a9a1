use Rattle.session_laws.proofs.VisibleEvents.{sessions_show_declared_gates}
use Rattle.session_laws.proofs.laws.sessions_show_declared_gates.Goals as goal

pub returns : goal.returns
returns c =
    sessions_show_declared_gates c.sessions_follow_derivations.ensures c.transitions_are_derived.ensures c.moves_stay_at_gates.ensures
    c.entries_stay_at_gates.ensures c.texts_have_declared_gates.ensures
