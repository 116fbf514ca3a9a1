use Rattle.std.proofs.Common.{◌≡◌, map, take, drop}
use Rattle.lotos_base.specs.Signature.{Sort}
use Rattle.sort_terms.specs.Operations.{sort_of}
use Rattle.sort_terms.specs.WellFormedTest.{are_one_sort}
use Rattle.type_definitions.specs.TypeFault.{double_sort}
use Rattle.type_definitions.specs.Renaming.{clash_among, pair_for, renamed_sort, renamed_sort_clash, renamed_presentation}
use Rattle.type_presentations.specs.PresentationView.{IsSound, presentation_of}
use Rattle.type_renaming.specs.Parts.{sorts_alone}
use Rattle.type_renaming.specs.RenamerView.{sort_pairs_in, type_name_in}
use Rattle.type_renaming.proofs.sorts.rename_sorts.Given as goal

abbrev pub invariant-loop-number : goal.invariant-loop-number
invariant-loop-number l =
    IsSound l.renamed
    × (presentation_of l.renamed
    ≡ renamed_presentation (sorts_alone (map sort_of (take l.number l.base))) (type_name_in l.renamer) (sort_pairs_in l.renamer))
    × (clash_among
    (λ (one : Sort) (other : Sort).
    are_one_sort (renamed_sort (type_name_in l.renamer) (sort_pairs_in l.renamer) one)
    (renamed_sort (type_name_in l.renamer) (sort_pairs_in l.renamer) other))
    (λ (s : Sort). pair_for (sort_pairs_in l.renamer).sort_pairs s.name) double_sort (map sort_of (take l.number l.base))
    (map sort_of (drop l.number l.base))
    ≡ renamed_sort_clash (sorts_alone (map sort_of l.base)) (type_name_in l.renamer) (sort_pairs_in l.renamer))
