use Rattle.std.specs.Vec.Iter.{into_iter_items, into_iter_len}
use Rattle.std.proofs.Common.{◌≡◌, length}
use Rattle.draft_parts.proofs.RowDraftLemmas.{IsJoinedSoFar}
use Rattle.draft_parts.proofs.rows.Row.draft.Given as goal

abbrev pub invariant-loop-left : goal.invariant-loop-left
invariant-loop-left l =
    IsJoinedSoFar l.first l.fn.self (into_iter_items l.left-iterator) l.by l.made
    × (into_iter_len l.left-iterator ≡ length (into_iter_items l.left-iterator))
