use Rattle.std.proofs.Common.{◌≡◌, [], map, take, drop}
use Rattle.lotos_base.specs.Signature.{Signature}
use Rattle.syntax_trees.specs.TreeViews.{pair_of}
use Rattle.type_presentations.specs.NamesView.{HasNames}
use Rattle.type_definitions.specs.Renaming.{operation_pairs_fault}
use Rattle.type_presentations.specs.PairNames.{names_of_operations, old_names}
use Rattle.type_presentations.proofs.operation_pairs.look_at_op_pairs.Given as goal

abbrev pub invariant-loop-number : goal.invariant-loop-number
invariant-loop-number l =
    HasNames l.olds (old_names (map pair_of (take l.number l.pairs)))
    × ((signature : Signature) → HasNames l.ops (names_of_operations signature)
    → operation_pairs_fault signature (map pair_of (take l.number l.pairs)) (map pair_of (drop l.number l.pairs))
    ≡ operation_pairs_fault signature [] (map pair_of l.pairs))
