use Rattle.std.proofs.Common.{◌≡◌, ◌++◌, drop, map, nat_eq}
use Rattle.std.specs.List.{filter}
use Rattle.sort_terms.specs.ProfiledTerm.{head_sort}
use Rattle.sort_terms.specs.SortedView.{profiled_in}
use Rattle.value_lists.specs.TrialView.{values_in}
use Rattle.value_lists.proofs.values.of_sort.Given as goal

abbrev pub invariant-loop-value : goal.invariant-loop-value
invariant-loop-value l =
    map profiled_in l.made.items ++ filter (λ t. nat_eq (head_sort t) l.sort) (values_in (drop l.value-index l.value-items))
    ≡ filter (λ t. nat_eq (head_sort t) l.sort) (values_in l.value-items)
