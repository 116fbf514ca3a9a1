use Rattle.std.proofs.Common.{[]}
use Rattle.sort_terms.specs.TermView.{profiled_of}
use Rattle.term_store.specs.OnTheWay.{halfway_of, IsOnItsWay, numbering_turns_of}
use Rattle.term_store.specs.SharedView.{keys_in}
use Rattle.term_store.proofs.numbering.number_of.Given as goal

abbrev pub invariant-loop-next : goal.invariant-loop-next
invariant-loop-next l =
    IsOnItsWay (profiled_of l.term) (keys_in l.fn.shared) [] (halfway_of (keys_in l.shared) l.left.items l.made.items)

abbrev pub decreases-loop-next : goal.decreases-loop-next
decreases-loop-next l = numbering_turns_of l.left.items
