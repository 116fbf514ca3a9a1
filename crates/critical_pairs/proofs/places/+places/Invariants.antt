use Rattle.std.proofs.Common.{◌≡◌, ◌+◌, ◌*◌, ◌++◌, drop, map}
use Rattle.sort_terms.specs.TermSize.{size_of, sizes_of}
use Rattle.sort_terms.specs.TermView.{bare_terms_of}
use Rattle.critical_pairs.specs.NodePlaces.{argument_places}
use Rattle.critical_pairs.specs.PairView.{node_place_of}
use Rattle.critical_pairs.proofs.places.+places.Given as goal

abbrev pub decreases-places_below : goal.decreases-places_below
decreases-places_below l = 2 * size_of l.term.now

abbrev pub decreases-places_among : goal.decreases-places_among
decreases-places_among l = 2 * sizes_of l.terms.now.items + 1

abbrev pub invariant-places_among-loop-i : goal.invariant-places_among-loop-i
invariant-places_among-loop-i l =
    map node_place_of l.fn.found.items ++ argument_places l.path 0 (bare_terms_of l.terms.items)
    ≡ map node_place_of l.found.items ++ argument_places l.path l.i (bare_terms_of (drop l.i l.terms.items))
