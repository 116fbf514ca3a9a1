-- By a most general unifier of the part and the second left side, its variables moved past those of the first one.
use Rattle.rewriting_theory.proofs.PairLemmas.{pair_exists}
use Rattle.rewriting_theory.proofs.confluence.overlaps_have_critical_pairs.Goals as goal

pub returns : goal.returns
returns c = λ rules first second path place overlap.
    let pair = pair_exists place overlap in
    (pair.peak, pair.left, pair.right, pair.is_pair)
