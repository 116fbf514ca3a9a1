-- Law by law: each speaks of the signature and of the equality of ground terms of one sort.
use Rattle.lotos_base.proofs.CanonLemmas.{canon_of_other}
use Rattle.lotos_base.proofs.canons.canons_hang_on_equality_alone.Goals as goal

pub returns : goal.returns
returns c = canon_of_other
