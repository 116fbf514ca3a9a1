use Rattle.std.proofs.Common.{refl}
use Rattle.worked_cases.proofs.bisimulation_cases.identity_is_tested.Goals as goal

pub returns : goal.returns
returns c = record {
  itself = refl;
  not_at_another_gate = refl;
  not_with_another_name = refl;
  not_in_another_order = refl;
  put_in = refl;
  not_by_the_equations = refl;
  not_below_a_binder = refl;
}
