use Rattle.std.proofs.Common.{◌≡◌, [], map, take, drop}
use Rattle.lotos_base.specs.Signature.{Signature}
use Rattle.syntax_trees.specs.TreeViews.{pair_of}
use Rattle.type_presentations.specs.NamesView.{HasNames}
use Rattle.type_definitions.specs.Renaming.{sort_pairs_fault}
use Rattle.type_presentations.specs.PairNames.{names_of_sorts, new_names, old_names}
use Rattle.type_presentations.proofs.sort_pairs.look_at_sort_pairs.Given as goal

abbrev pub invariant-loop-number : goal.invariant-loop-number
invariant-loop-number l =
    HasNames l.olds (old_names (map pair_of (take l.number l.pairs)))
    × HasNames l.news (new_names (map pair_of (take l.number l.pairs)))
    × ((signature : Signature) → HasNames l.sorts (names_of_sorts signature)
    → sort_pairs_fault signature (map pair_of (take l.number l.pairs)) (map pair_of (drop l.number l.pairs))
    ≡ sort_pairs_fault signature [] (map pair_of l.pairs))
