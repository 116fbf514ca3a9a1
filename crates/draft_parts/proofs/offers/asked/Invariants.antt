use Rattle.std.proofs.Common.{◌≡◌, ◌++◌, drop}
use Rattle.term_match.specs.SubstView.{profiled_pairs}
use Rattle.draft_parts.specs.Offered.{asked_pairs}
use Rattle.draft_parts.proofs.offers.asked.Given as goal

abbrev pub invariant-loop-offer : goal.invariant-loop-offer
invariant-loop-offer l =
    profiled_pairs l.made.items ++ asked_pairs l.number (drop l.offer-index l.offer-items) ≡ asked_pairs l.fn.first l.offer-items
