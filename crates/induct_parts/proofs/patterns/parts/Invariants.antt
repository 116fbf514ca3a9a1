use Rattle.lotos_base.proofs.Each.{Each}
use Rattle.certificate_theory.specs.Patterns.{split_with, split_patterns}
use Rattle.induct_parts.specs.CaseView.{IsKnownPattern, pattern_in, patterns_in}
use Rattle.induct_parts.specs.SettingView.{setting_signature}
use Rattle.induct_parts.proofs.StepLemmas.{IsMadeSoFar, listed_makes}
use Rattle.induct_parts.proofs.patterns.parts.Given as goal

abbrev pub invariant-loop-operation : goal.invariant-loop-operation
invariant-loop-operation l = record {
  made : IsMadeSoFar (listed_makes (split_with (pattern_in l.pattern) l.number l.sort) l.operations)
      (setting_signature l.setting).operations
      (split_patterns (setting_signature l.setting) (pattern_in l.pattern) l.number l.sort l.operations) l.operation
      (patterns_in l.made.items);
  known : Each (λ p. IsKnownPattern (pattern_in p)) l.made.items;
}
