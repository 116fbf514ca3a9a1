-- Lists of critical pairs that name the equations of their rules.
use Rattle.std.specs.Prelude.{◌≡◌, ℕ, zero, suc, List, [], ◌∷◌, ◌++◌, Some, map, slice_get}
use Rattle.lotos_base.specs.Signature.{Signature}
use Rattle.rewriting_theory.specs.CriticalPair.{CriticalPair}
use Rattle.rewriting_theory.specs.PairList.{PairPlace, AreCriticalPairs}
use Rattle.rewriting_theory.specs.Places.{PairsOf}
use Rattle.path_order.specs.HandedOn.{NumberedRule, rules_of}
use Rattle.critical_pairs.specs.OverlapPair.{ArePairTermsOf}
use Rattle.critical_pairs.specs.PairView.{terms_in}
use Rattle.critical_pairs.specs.declared.pair.Pair.{Pair}

-- The number of the equation of the rule with this number.
abbrev pub equation_at : List NumberedRule → ℕ → ℕ
equation_at [] k = 0
equation_at (rule ∷ rules) zero = rule.equation
equation_at (rule ∷ rules) (suc k) = equation_at rules k

-- The pair with the numbers of the equations of its rules in place of the numbers of the rules.
abbrev pub named_by : List NumberedRule → CriticalPair → CriticalPair
named_by rules pair = record {
  first = equation_at rules pair.first;
  second = equation_at rules pair.second;
  path = pair.path;
  peak = pair.peak;
  left = pair.left;
  right = pair.right;
}

-- These are the critical pairs of the rules, in their order, with the numbers of equations.
pub record ListsAll (rules : List NumberedRule) (pairs : List CriticalPair) : Type 0 where
  pub plain : List CriticalPair
  pub all : AreCriticalPairs (rules_of rules) plain
  pub named : map (named_by rules) plain ≡ pairs

-- The second list is the first one and after it the pairs of these places, with the numbers of equations.
pub record AddsPairs (rules : List NumberedRule) (places : List PairPlace) (before after : List CriticalPair) : Type 0 where
  pub plain : List CriticalPair
  pub pairs_of : PairsOf (rules_of rules) places plain
  pub named : before ++ map (named_by rules) plain ≡ after

-- The terms of each of the pairs are of the signature.
abbrev pub ArePairsOver : Signature → List Pair → Type 0
ArePairsOver signature pairs = (k : ℕ) (pair : Pair) → slice_get pairs k ≡ Some pair → ArePairTermsOf signature (terms_in pair)
