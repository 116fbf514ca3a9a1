use Rattle.session_laws.proofs.SameMenus.{do_the_same}
use Rattle.session_laws.proofs.same_laws.same_specifications_do_the_same.Goals as goal

pub returns : goal.returns
returns c = do_the_same
