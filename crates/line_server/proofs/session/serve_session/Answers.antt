use Rattle.line_server.proofs.SessionTurns.{turns_serve}
use Rattle.line_server.proofs.session.serve_session.Goals as goal

pub returns-clause-served : goal.returns-clause-served
returns-clause-served g c = turns_serve g.L.Lines.machine _ _ c.serve_turns.result c.serve_turns.ensures.turns
