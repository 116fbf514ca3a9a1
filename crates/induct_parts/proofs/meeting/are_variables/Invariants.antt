use Rattle.std.proofs.Common.{◌≡◌, drop, []}
use Rattle.term_match.specs.FoundView.{found_pairs}
use Rattle.induct_parts.specs.Meeting.{are_renamed}
use Rattle.induct_parts.proofs.meeting.are_variables.Given as goal

abbrev pub invariant-loop-pair : goal.invariant-loop-pair
invariant-loop-pair l =
    are_renamed l.sorts l.seen.items (found_pairs (drop l.pair-index l.found)) ≡ are_renamed l.sorts [] (found_pairs l.found)
