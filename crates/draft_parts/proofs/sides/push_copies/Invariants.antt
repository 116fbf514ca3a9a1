use Rattle.std.specs.Vec.Iter.{into_iter_items, into_iter_len}
use Rattle.std.proofs.Common.{◌≡◌, length}
use Rattle.event_offers.specs.Renaming.{renaming_of}
use Rattle.draft_parts.proofs.MetLemmas.{AreCopiedSoFar}
use Rattle.draft_parts.proofs.sides.push_copies.Given as goal

abbrev pub invariant-loop-right : goal.invariant-loop-right
invariant-loop-right l =
    AreCopiedSoFar l.left (renaming_of l.renaming) l.fn.drafts.items (into_iter_items l.initial.right-iterator)
    (into_iter_items l.right-iterator) l.drafts.items
    × (into_iter_len l.right-iterator ≡ length (into_iter_items l.right-iterator))
