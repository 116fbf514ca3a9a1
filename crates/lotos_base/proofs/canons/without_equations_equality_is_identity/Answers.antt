-- Without equations there is no link.
use Rattle.lotos_base.proofs.CanonLemmas.{equal_identical, identity_canon}
use Rattle.lotos_base.proofs.EqualityLemmas.{equal_same}
use Rattle.lotos_base.proofs.canons.without_equations_equality_is_identity.Goals as goal

pub returns-clause-identity : goal.returns-clause-identity
returns-clause-identity c = λ data_ t u none. ((λ e. equal_identical none e), equal_same data_ t u)

pub returns-clause-canon : goal.returns-clause-canon
returns-clause-canon c = identity_canon
