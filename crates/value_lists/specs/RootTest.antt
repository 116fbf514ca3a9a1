-- Whether a rule can be used at the root of a term.
use Rattle.std.proofs.Common.{inl, inr}
use Rattle.std.specs.Prelude.{◌⊎◌, Bool, true, false, List}
use Rattle.lotos_base.specs.Term.{Term}
use Rattle.rewriting_theory.specs.Rule.{Rule}
use Rattle.rewriting_theory.proofs.MatchLemmas.{decide_first}

-- whether the second of the two is so
abbrev pub is_second : {A B : Type 0} → A ⊎ B → Bool
is_second (inl a) = false
is_second (inr b) = true

-- whether the left side of no rule matches the term
abbrev pub no_rule_matches : List Rule → Term → Bool
no_rule_matches rules t = is_second (decide_first rules t)
