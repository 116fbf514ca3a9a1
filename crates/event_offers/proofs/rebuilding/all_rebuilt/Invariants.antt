use Rattle.std.proofs.Common.{◌≡◌, map}
use Rattle.sort_terms.specs.MadeTerms.{made_of}
use Rattle.sort_terms.specs.TermView.{profiled_of}
use Rattle.term_match.specs.ProfiledInstance.{profiled_instance}
use Rattle.event_offers.specs.Rebuilt.{rebuilt_by, turns_of}
use Rattle.event_offers.proofs.rebuilding.all_rebuilt.Given as goal

-- when all is done the terms are made
abbrev pub invariant-loop-next : goal.invariant-loop-next
invariant-loop-next g l =
    rebuilt_by (g.R.Replacing.put_for l.values) l.left.items (made_of l.made.items)
    ≡ map (profiled_instance (g.R.Replacing.put_for l.values)) (map profiled_of l.terms.items)

abbrev pub decreases-loop-next : goal.decreases-loop-next
decreases-loop-next g l = turns_of l.left.items
