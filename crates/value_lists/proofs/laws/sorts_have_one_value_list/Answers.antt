-- The search finds one; and lists that rise by a strict order and have the same members are one.
use Rattle.std.proofs.Common.{nat_eq, map}
use Rattle.std.specs.List.{filter}
use Rattle.sort_terms.specs.ProfiledTerm.{bare, head_sort}
use Rattle.value_lists.specs.Search.{found_up_to}
use Rattle.value_lists.proofs.ListLemmas.{listed_once}
use Rattle.value_lists.proofs.TableLemmas.{keeps, table_of, value_list}
use Rattle.value_lists.proofs.laws.sorts_have_one_value_list.Goals as goal

pub returns-clause-some : goal.returns-clause-some
returns-clause-some c = λ signature rules limit sort. (
  map bare (filter (λ t. nat_eq (head_sort t) sort) (found_up_to (keeps signature rules) signature.operations limit)),
  value_list signature rules limit sort (found_up_to (keeps signature rules) signature.operations limit)
      (table_of signature rules limit),
)

pub returns-clause-one : goal.returns-clause-one
returns-clause-one c = λ signature rules limit sort terms others one other. listed_once one other
