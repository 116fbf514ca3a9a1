-- What the pairs and places of the code stand for.
use Rattle.std.specs.Prelude.{List, map}
use Rattle.rewriting_theory.specs.CriticalPair.{CriticalPair}
use Rattle.sort_terms.specs.SortedView.{profiled_in, term_in}
use Rattle.critical_pairs.specs.TwoSides.{PairTerms}
use Rattle.critical_pairs.specs.NodePlaces.{PlaceOfNode}
use Rattle.critical_pairs.specs.declared.overlaps.Overlap.{Overlap}
use Rattle.critical_pairs.specs.declared.pair.Pair.{Pair}
use Rattle.critical_pairs.specs.declared.places.NodePlace.{NodePlace}

-- the pair, with the numbers of equations
abbrev pub critical_pair_of : Pair → CriticalPair
critical_pair_of pair = record {
  first = pair.first;
  second = pair.second;
  path = pair.path.items;
  peak = term_in pair.peak;
  left = term_in pair.left;
  right = term_in pair.right;
}

-- the pairs
abbrev pub critical_pairs_in : List Pair → List CriticalPair
critical_pairs_in pairs = map critical_pair_of pairs

-- the terms of the pair
abbrev pub terms_in : Pair → PairTerms
terms_in pair = record { peak = profiled_in pair.peak; left = profiled_in pair.left; right = profiled_in pair.right }

-- the place
abbrev pub node_place_of : NodePlace → PlaceOfNode
node_place_of place = record { path = place.path.items; head = place.head; first = place.first }

-- the terms that two rules make of an overlap
abbrev pub overlap_of : Overlap → PairTerms
overlap_of pair = record { peak = profiled_in pair.peak; left = profiled_in pair.left; right = profiled_in pair.right }
