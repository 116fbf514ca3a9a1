use Rattle.std.proofs.Common.{take}
use Rattle.rewriting_theory.specs.Places.{places_at}
use Rattle.critical_pairs.specs.Extended.{AddsPairsOf, paths_in}
use Rattle.critical_pairs.proofs.listing.pairs_of_two.Given as goal

abbrev pub invariant-loop-place : goal.invariant-loop-place
invariant-loop-place l =
    AddsPairsOf l.rules (places_at l.numbers.0 l.numbers.1 (paths_in (take l.place-index l.places))) l.fn.found.items l.found.items
