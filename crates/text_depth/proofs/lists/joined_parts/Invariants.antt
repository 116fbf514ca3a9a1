use Rattle.std.proofs.Common.{◌≡◌, ◌++◌, ◌∷◌, [], map, length}
use Rattle.ll_engine.specs.Run.{from_last}
use Rattle.text_depth.specs.RowDepth.{joined_parts}
use Rattle.text_depth.specs.PartView.{kept_of}
use Rattle.text_depth.proofs.lists.joined_parts.Given as goal

abbrev pub invariant-loop-part : goal.invariant-loop-part
invariant-loop-part l =
    joined_parts (map kept_of l.parts.items ++ kept_of l.joined ∷ []) ≡ joined_parts (from_last kept_of l.fn.parts.items)

abbrev pub decreases-loop-part : goal.decreases-loop-part
decreases-loop-part l = length l.parts.items
