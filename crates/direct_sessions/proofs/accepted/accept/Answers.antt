use Rattle.direct_sessions.proofs.accepted.accept.Goals as goal

pub returns-in-Ok : goal.returns-in-Ok
returns-in-Ok c = (c.in-Ok.ensures.0, c.in-Ok.ensures.2)
