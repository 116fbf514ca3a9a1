use Rattle.std.proofs.Common.{◌≡◌, map, drop}
use Rattle.sort_terms.specs.Operations.{sort_of}
use Rattle.type_presentations.specs.SortListView.{sorts_in}
use Rattle.type_definitions.specs.Actualisation.{Actualising, actual_sort}
use Rattle.type_definitions.specs.ActualisationFaults.{formal_sort_fault}
use Rattle.type_presentations.specs.PairIndexView.{pairs_in}
use Rattle.type_renaming.specs.PartsView.{IsBaseOf}
use Rattle.type_renaming.proofs.ActualLemmas.{Looked}
use Rattle.type_renaming.proofs.actual_sorts.actual_sort_numbers.Given as goal

abbrev pub invariant-loop-number : goal.invariant-loop-number
invariant-loop-number l = (a : Actualising) → IsBaseOf a l.base l.mention → a.actual.signature.sorts ≡ sorts_in l.sorts
    → a.pairs.sort_pairs ≡ pairs_in l.pairs
    → Looked (formal_sort_fault a) a.base.presentation.formal_sorts (actual_sort a) a.base.presentation.signature.sorts l.number
    (map sort_of (drop l.number l.coming)) l.numbers.items
