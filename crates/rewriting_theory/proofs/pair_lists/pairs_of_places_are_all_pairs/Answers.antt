-- By recursion on the places, which are listed in order.
use Rattle.rewriting_theory.proofs.PlaceListLemmas.{place_listed, pairs_are_all, pairs_append}
use Rattle.rewriting_theory.proofs.pair_lists.pairs_of_places_are_all_pairs.Goals as goal

pub returns-clause-listed : goal.returns-clause-listed
returns-clause-listed c = place_listed

pub returns-clause-all : goal.returns-clause-all
returns-clause-all c = pairs_are_all

pub returns-clause-append : goal.returns-clause-append
returns-clause-append c = λ rules one two pairs others first rest. pairs_append first rest
