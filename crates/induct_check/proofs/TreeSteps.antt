-- What is left in a tree that the code has read.
use Rattle.std.proofs.Common.{List}
use Rattle.lotos_base.proofs.Each.{Each}
use Rattle.certificate_theory.proofs.Each.{each_map}
use Rattle.induct_parts.specs.CaseView.{IsKnownPattern, pattern_in, patterns_in}
use Rattle.induct_parts.specs.declared.patterns.Pattern.{Pattern as CodePattern}

pub known_patterns : (patterns : List CodePattern) → Each (λ p. IsKnownPattern (pattern_in p)) patterns
    → Each IsKnownPattern (patterns_in patterns)
known_patterns patterns each = each_map pattern_in IsKnownPattern patterns each
