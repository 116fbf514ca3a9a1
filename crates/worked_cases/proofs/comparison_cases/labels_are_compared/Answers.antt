use Rattle.std.proofs.Common.{refl}
use Rattle.worked_cases.proofs.CaseLemmas.{sum_is_one, nought_not_one}
use Rattle.worked_cases.proofs.comparison_cases.labels_are_compared.Goals as goal

pub returns : goal.returns
returns c = record {
  equal = (refl, (sum_is_one, tt));
  not_at_another_gate = λ h. absurd (cc h.0);
  not_with_more_values = λ h. h.1;
  not_with_another_value = λ h. nought_not_one h.0;
  not_of_another_kind = λ h. h;
  not_alike_at_another_gate = λ h. absurd (cc h.0);
  not_alike_of_another_kind = λ h. h;
}
