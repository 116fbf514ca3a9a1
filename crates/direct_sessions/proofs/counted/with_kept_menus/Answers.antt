use Rattle.direct_sessions.proofs.counted.with_kept_menus.Goals as goal

pub asked_at_first-requires-clause-suited : goal.asked_at_first-requires-clause-suited
asked_at_first-requires-clause-suited c = c.in_ok-maker.ensures _ _
