use Rattle.std.proofs.Common.{◌≡◌, drop}
use Rattle.term_match.specs.ProfiledInstance.{profiled_binding}
use Rattle.term_match.specs.SubstView.{profiled_pairs}
use Rattle.event_offers.proofs.valued.paired.Given as goal

abbrev pub invariant-loop-known : goal.invariant-loop-known
invariant-loop-known l =
    profiled_binding (profiled_pairs l.pairs) l.number l.sort ≡ profiled_binding
    (profiled_pairs (drop l.known-index l.pairs)) l.number l.sort
