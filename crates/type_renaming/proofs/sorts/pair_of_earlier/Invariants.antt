use Rattle.std.proofs.Common.{◌≡◌, map, drop, false}
use Rattle.std.specs.List.{list_any}
use Rattle.sort_terms.specs.Operations.{sort_of}
use Rattle.sort_terms.specs.WellFormedTest.{are_one_sort}
use Rattle.type_renaming.specs.Clashes.{sort_clash}
use Rattle.type_renaming.specs.RenamerView.{sort_pairs_in, type_name_in}
use Rattle.type_renaming.proofs.sorts.pair_of_earlier.Given as goal

abbrev pub invariant-loop-other : goal.invariant-loop-other
invariant-loop-other l =
    (list_any (are_one_sort (sort_of l.sort)) (map sort_of (drop l.other-index l.earlier)) ≡ false)
    × (sort_clash (type_name_in l.renamer) (sort_pairs_in l.renamer) (map sort_of (drop l.other-index l.earlier)) (sort_of l.sort)
    ≡ sort_clash (type_name_in l.renamer) (sort_pairs_in l.renamer) (map sort_of l.earlier) (sort_of l.sort))
