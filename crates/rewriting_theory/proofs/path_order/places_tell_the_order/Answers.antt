-- By recursion on the two derivations.
use Rattle.rewriting_theory.proofs.OrderPlaceLemmas.{exceeds_greater, greater_exceeds, sorted_lengths}
use Rattle.rewriting_theory.proofs.path_order.places_tell_the_order.Goals as goal

pub returns-clause-places : goal.returns-clause-places
returns-clause-places c = λ precedence t u. (greater_exceeds, exceeds_greater)

pub returns-clause-lengths : goal.returns-clause-lengths
returns-clause-lengths c = sorted_lengths
