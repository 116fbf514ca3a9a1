use Rattle.std.proofs.Common.{◌≡◌, [], ◌∷◌, reverse}
use Rattle.lotos_base.proofs.Each.{Each}
use Rattle.certificate_theory.specs.Proofs.{CaseComesTo, IsWrongAtCase}
use Rattle.induct_parts.specs.CaseView.{IsKnownCase, case_in, cases_in}
use Rattle.induct_parts.specs.CertificateView.{proof_line_of}
use Rattle.induct_parts.specs.SettingView.{proving_in, setting_covers, setting_signature, theory_in}
use Rattle.induct_parts.proofs.LineSteps.{DealSoFar}
use Rattle.induct_parts.proofs.lemmas.deal.Given as goal

abbrev pub invariant-loop-number : goal.invariant-loop-number
invariant-loop-number g l = record {
  same_data : g.D.Deciding.known_data l.data_ ≡ g.D.Deciding.known_data l.initial.data_;
  same_canon : g.D.Deciding.canon l.data_ ≡ g.D.Deciding.canon l.initial.data_;
  so_far : DealSoFar
      (CaseComesTo (theory_in l.setting (g.D.Deciding.known_data l.initial.data_) (g.D.Deciding.canon l.initial.data_))
      (setting_covers l.setting) (proving_in l.proving))
      (IsWrongAtCase (theory_in l.setting (g.D.Deciding.known_data l.initial.data_) (g.D.Deciding.canon l.initial.data_))
      (setting_covers l.setting) (proving_in l.proving))
      proof_line_of (case_in l.fn.first ∷ []) l.lines l.number (cases_in (reverse l.left.items));
  known : Each (IsKnownCase (setting_signature l.setting) l.proving.free) (reverse l.left.items);
}
