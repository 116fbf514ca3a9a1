use Rattle.std.proofs.Common.{◌≡◌}
use Rattle.lotos_base.proofs.Each.{Each}
use Rattle.certificate_theory.specs.Splits.{case_with, cases_of_split}
use Rattle.induct_parts.specs.CaseView.{IsKnownCase, case_in, cases_in}
use Rattle.induct_parts.specs.SettingView.{proving_in, setting_signature, theory_in}
use Rattle.induct_parts.proofs.StepLemmas.{IsMadeSoFar, listed_makes}
use Rattle.induct_parts.proofs.splits.parts.Given as goal

abbrev pub invariant-loop-operation : goal.invariant-loop-operation
invariant-loop-operation g l = record {
  same_data : g.D.Deciding.known_data l.data_ ≡ g.D.Deciding.known_data l.initial.data_;
  same_canon : g.D.Deciding.canon l.data_ ≡ g.D.Deciding.canon l.initial.data_;
  made : IsMadeSoFar
      (listed_makes
      (case_with (theory_in l.setting (g.D.Deciding.known_data l.initial.data_) (g.D.Deciding.canon l.initial.data_))
      (proving_in l.proving) (case_in l.point) l.number l.sort)
      l.operations)
      (setting_signature l.setting).operations
      (cases_of_split (theory_in l.setting (g.D.Deciding.known_data l.initial.data_) (g.D.Deciding.canon l.initial.data_))
      (proving_in l.proving) (case_in l.point) l.number l.sort l.operations)
      l.operation (cases_in l.made.items);
  known : Each (IsKnownCase (setting_signature l.setting) l.proving.free) l.made.items;
}
