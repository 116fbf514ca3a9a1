use Rattle.session_laws.proofs.SameTexts.{texts_agree}
use Rattle.session_laws.proofs.same_laws.texts_agree_but_for_processes.Goals as goal

pub returns : goal.returns
returns c = texts_agree
