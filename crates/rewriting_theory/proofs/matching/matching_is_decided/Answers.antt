-- By what the term has at the first place of each variable of the pattern.
use Rattle.std.proofs.Common.{sym, ◌∙◌}
use Rattle.rewriting_theory.proofs.LocalLemmas.{values_same}
use Rattle.rewriting_theory.proofs.MatchLemmas.{decide_match}
use Rattle.rewriting_theory.proofs.matching.matching_is_decided.Goals as goal

pub returns-clause-decided : goal.returns-clause-decided
returns-clause-decided c = λ pattern t. decide_match pattern t

pub returns-clause-values : goal.returns-clause-values
returns-clause-values c = λ pattern t values others n s one two o. values_same values others pattern (one ∙ sym two) n s o
