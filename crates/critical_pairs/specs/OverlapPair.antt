-- Whether two rules have a critical pair at a path, and which one, wherever the two rules stand among others.
use Rattle.std.specs.Prelude.{◌≡◌, ℕ, List, []}
use Rattle.lotos_base.specs.Signature.{Signature}
use Rattle.rewriting_theory.specs.Rule.{Rule, IsRuleAt}
use Rattle.rewriting_theory.specs.Places.{IsPairOf, IsApartAt}
use Rattle.sort_terms.specs.ProfiledTerm.{IsOf}
use Rattle.path_order.specs.RuleSides.{Sides}
use Rattle.critical_pairs.specs.TwoSides.{bare_rule, PairTerms, pair_with, IsFormedRuleOver}

-- Both rules are over some signature.
abbrev pub HaveOneSignature : Sides → Sides → Type 0
HaveOneSignature first second = (signature : Signature) × IsFormedRuleOver signature first × IsFormedRuleOver signature second

-- The left sides do not overlap there, whatever the rules' numbers are.
abbrev pub HaveNoOverlap : Sides → Sides → List ℕ → Type 0
HaveNoOverlap first second path = (rules : List Rule) (i j : ℕ) → IsRuleAt rules i (bare_rule first) → IsRuleAt rules j (bare_rule second)
    → IsApartAt rules (record { first = i; second = j; path = path })

-- These are the terms of the pair there, whatever the rules' numbers are, but for a rule with itself at the root.
abbrev pub IsOverlapPair : Sides → Sides → List ℕ → PairTerms → Type 0
IsOverlapPair first second path terms = (rules : List Rule) (i j : ℕ) → IsRuleAt rules i (bare_rule first)
    → IsRuleAt rules j (bare_rule second) → (i ≡ j → ¬ (path ≡ []))
    → IsPairOf rules (record { first = i; second = j; path = path }) (pair_with i j path terms)

-- The terms are of the signature.
pub record ArePairTermsOf (signature : Signature) (terms : PairTerms) : Type 0 where
  pub peak : IsOf signature terms.peak
  pub left : IsOf signature terms.left
  pub right : IsOf signature terms.right

-- They are where the two rules are over it.
abbrev pub IsOverOverlap : Signature → Sides → Sides → PairTerms → Type 0
IsOverOverlap signature first second terms = IsFormedRuleOver signature first → IsFormedRuleOver signature second
    → ArePairTermsOf signature terms
