use Rattle.std.proofs.Common.{[], ◌∷◌, reverse}
use Rattle.lotos_base.proofs.Each.{Each}
use Rattle.certificate_theory.specs.Patterns.{PatternComesTo, IsWrongAtPattern}
use Rattle.induct_parts.specs.CaseView.{IsKnownPattern, pattern_in, patterns_in}
use Rattle.induct_parts.specs.CertificateView.{tree_line_of}
use Rattle.induct_parts.specs.SettingView.{setting_signature, setting_rules, setting_covers}
use Rattle.induct_parts.proofs.LineSteps.{DealSoFar}
use Rattle.induct_parts.proofs.trees.deal.Given as goal

abbrev pub invariant-loop-number : goal.invariant-loop-number
invariant-loop-number l = record {
  so_far : DealSoFar (PatternComesTo (setting_signature l.setting) (setting_rules l.setting) (setting_covers l.setting))
      (IsWrongAtPattern (setting_rules l.setting) (setting_covers l.setting)) tree_line_of (pattern_in l.fn.first ∷ [])
      l.lines l.number (patterns_in (reverse l.left.items));
  known : Each (λ p. IsKnownPattern (pattern_in p)) (reverse l.left.items);
}
