use Rattle.direct_sessions.proofs.lockstep.with_kept_menus.Goals as goal

pub printed-requires-clause-suited : goal.printed-requires-clause-suited
printed-requires-clause-suited c = c.in_ok-maker.ensures _ _
