-- The disagreement that a difference of the code stands for.
use Rattle.sort_terms.specs.TermView.{profiled_of}
use Rattle.term_match.specs.Disagreement.{TermDisagreement, agreed, clashing, binds}
use Rattle.term_match.specs.declared.differences.Difference.{Difference}
use Rattle.term_match.specs.declared.differences.Difference.TheVariants.{Alike, Clash, Bound}

-- the disagreement
abbrev pub disagreement_of : Difference → TermDisagreement
disagreement_of Alike = agreed
disagreement_of Clash = clashing
disagreement_of (Bound number sort value) = binds number sort (profiled_of value.now)
