-- Lists in order with the same members are one; terms that are instances of one another and numbered alike are one.
use Rattle.rewriting_theory.proofs.PlaceListLemmas.{same_places}
use Rattle.rewriting_theory.proofs.UniqueLemmas.{pairs_unique}
use Rattle.rewriting_theory.proofs.pair_lists.the_list_of_pairs_is_unique.Goals as goal

pub returns-clause-places : goal.returns-clause-places
returns-clause-places c = same_places

pub returns-clause-pairs : goal.returns-clause-pairs
returns-clause-pairs c = pairs_unique
