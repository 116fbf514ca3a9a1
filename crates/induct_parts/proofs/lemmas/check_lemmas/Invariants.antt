use Rattle.std.proofs.Common.{◌≡◌, ◌+◌, drop}
use Rattle.certificate_theory.specs.Certified.{IsRightLemma, IsWrongLemma, lines_of_lemma}
use Rattle.induct_parts.specs.CertificateView.{lemma_in, lemmas_in, lines_of_lemmas}
use Rattle.induct_parts.specs.SettingView.{setting_covers, theory_in}
use Rattle.induct_parts.proofs.LineSteps.{RightSoFar}
use Rattle.induct_parts.proofs.lemmas.check_lemmas.Given as goal

abbrev pub invariant-loop-number : goal.invariant-loop-number
invariant-loop-number g l = record {
  same_data : g.D.Deciding.known_data l.data_ ≡ g.D.Deciding.known_data l.initial.data_;
  same_canon : g.D.Deciding.canon l.data_ ≡ g.D.Deciding.canon l.initial.data_;
  so_far : RightSoFar
      (IsRightLemma (theory_in l.setting (g.D.Deciding.known_data l.initial.data_) (g.D.Deciding.canon l.initial.data_))
      (setting_covers l.setting))
      (IsWrongLemma (theory_in l.setting (g.D.Deciding.known_data l.initial.data_) (g.D.Deciding.canon l.initial.data_))
      (setting_covers l.setting))
      lines_of_lemma lemma_in l.begin l.lemmas l.number l.line;
  few : l.line + lines_of_lemmas (lemmas_in (drop l.number l.lemmas)) ≡ l.begin + lines_of_lemmas (lemmas_in l.lemmas);
}
