-- By recursion on the chain.
use Rattle.lotos_base.proofs.EqualityLemmas.{equal_related}
use Rattle.lotos_base.proofs.equality.equality_is_least.Goals as goal

pub returns : goal.returns
returns g c = λ t u h e. equal_related g.R.Congruence.domain g.R.Congruence.related g.R.Congruence.is_congruence h e
