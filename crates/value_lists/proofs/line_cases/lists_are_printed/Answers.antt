use Rattle.std.proofs.Common.{refl}
use Rattle.std.specs.Fmt.{digits}
use Rattle.value_lists.proofs.line_cases.lists_are_printed.Goals as goal

pub returns : goal.returns
unfolding digits
returns c = record {
  no_values = refl;
  values = refl;
  no_sort_ = refl;
  too_many = refl;
  no_instances = refl;
  instances = refl;
  entry = refl;
  too_many_ways = refl;
}
