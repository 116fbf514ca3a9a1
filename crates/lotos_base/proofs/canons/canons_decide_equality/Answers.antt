-- By the first, second and fourth laws of a canon.
use Rattle.lotos_base.proofs.CanonLemmas.{canon_ground, canon_equal, canon_tells}
use Rattle.lotos_base.proofs.canons.canons_decide_equality.Goals as goal

pub returns-clause-equal : goal.returns-clause-equal
returns-clause-equal c = λ data_ canon t s h g. (canon_ground data_ canon t s h g, canon_equal data_ canon t s h g)

pub returns-clause-decided : goal.returns-clause-decided
returns-clause-decided c = λ data_ canon t u s h g k. (h.decides t u s g k, canon_tells data_ canon t u s h g k)
