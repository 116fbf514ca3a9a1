use Rattle.std.proofs.Common.{◌≡◌, drop, map}
use Rattle.std.specs.Prelude.{None}
use Rattle.path_order.specs.RulesView.{plain_rules_in}
use Rattle.critical_pairs.specs.Candidates.{all_least}
use Rattle.critical_pairs.specs.PairView.{node_place_of}
use Rattle.critical_pairs.proofs.candidates.next_candidate.Given as goal

abbrev pub invariant-loop-place : goal.invariant-loop-place
invariant-loop-place l =
    all_least (plain_rules_in l.rules) l.from None (map node_place_of l.places)
    ≡ all_least (plain_rules_in l.rules) l.from l.best (map node_place_of (drop l.place-index l.places))
