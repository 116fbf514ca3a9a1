use Rattle.std.proofs.Common.{◌≡◌, ◌≤◌, [], map, take, drop}
use Rattle.syntax_trees.specs.TreeViews.{pair_of}
use Rattle.type_presentations.specs.NamesView.{HasNames}
use Rattle.type_definitions.specs.Presentation.{Presentation}
use Rattle.type_definitions.specs.ActualisationFaults.{actual_pairs_fault}
use Rattle.type_presentations.specs.PairNames.{names_of_sorts, old_names}
use Rattle.type_presentations.specs.FormalNames.{names_of_formal_sorts}
use Rattle.type_presentations.specs.NewNamesView.{HasNewNames}
use Rattle.type_presentations.proofs.actual_sort_pairs.look_at_actual_sort_pairs.Given as goal

abbrev pub invariant-loop-number : goal.invariant-loop-number
invariant-loop-number l =
    HasNames l.olds (old_names (map pair_of (take l.number l.pairs)))
    × (l.news.other_count ≤ l.number)
    × ((base : Presentation) → HasNames l.formals (names_of_formal_sorts base)
    → HasNewNames l.news base (map pair_of (take l.number l.pairs)))
    × ((base : Presentation) → HasNames l.sorts (names_of_sorts base.signature)
    → HasNames l.formals (names_of_formal_sorts base)
    → actual_pairs_fault base (map pair_of (take l.number l.pairs)) (map pair_of (drop l.number l.pairs))
    ≡ actual_pairs_fault base [] (map pair_of l.pairs))
