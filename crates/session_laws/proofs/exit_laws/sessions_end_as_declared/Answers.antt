use Rattle.session_laws.proofs.EndingSessions.{sessions_end_as_declared}
use Rattle.session_laws.proofs.exit_laws.sessions_end_as_declared.Goals as goal

pub returns : goal.returns
returns c =
    sessions_end_as_declared c.no_disagreement_is_agreement.ensures c.exits_have_their_sorts.ensures c.start_values_are_ground.ensures
    c.sessions_follow_derivations.ensures c.transitions_are_derived.ensures
