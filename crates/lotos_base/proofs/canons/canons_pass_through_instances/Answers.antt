-- By the third, fourth, sixth and seventh laws of a canon.
use Rattle.lotos_base.proofs.CanonLemmas.{canon_through, canon_renamed}
use Rattle.lotos_base.proofs.canons.canons_pass_through_instances.Goals as goal

pub returns-clause-instances : goal.returns-clause-instances
returns-clause-instances c = canon_through

pub returns-clause-renamed : goal.returns-clause-renamed
returns-clause-renamed c = canon_renamed
