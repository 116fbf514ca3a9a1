use Rattle.session_laws.proofs.SameSessions.{sessions_agree}
use Rattle.session_laws.proofs.same_laws.sessions_over_the_same_agree.Goals as goal

pub returns : goal.returns
returns c = sessions_agree
