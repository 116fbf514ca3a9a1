-- The two sides of a rule, and the terms of an overlap, with the profiles of their operations.
use Rattle.std.specs.Prelude.{◌≡◌, ℕ, List}
use Rattle.lotos_base.specs.Signature.{Signature}
use Rattle.rewriting_theory.specs.Rule.{Rule, IsWellFormedRule}
use Rattle.rewriting_theory.specs.CriticalPair.{CriticalPair}
use Rattle.sort_terms.specs.ProfiledTerm.{ProfiledTerm, bare, head_sort, IsOf}
use Rattle.term_match.specs.Matched.{TermHasOneSortPerNumber}
use Rattle.path_order.specs.RuleSides.{Sides}

-- the rule without the profiles
abbrev pub bare_rule : Sides → Rule
bare_rule sides = record { left = bare sides.left; right = bare sides.right }

-- the terms of a pair
pub record PairTerms : Type 0 where
  pub peak : ProfiledTerm
  pub left : ProfiledTerm
  pub right : ProfiledTerm

-- the pair of two rules with these numbers at this path
abbrev pub pair_with : ℕ → ℕ → List ℕ → PairTerms → CriticalPair
pair_with first second path terms = record {
  first = first;
  second = second;
  path = path;
  peak = bare terms.peak;
  left = bare terms.left;
  right = bare terms.right;
}

-- A rule over the signature: both sides are of it and have one sort, the rule is well formed, and a variable number has one
-- sort in the left side.
pub record IsFormedRuleOver (signature : Signature) (sides : Sides) : Type 0 where
  pub left_is_of : IsOf signature sides.left
  pub right_is_of : IsOf signature sides.right
  pub one_sort : head_sort sides.left ≡ head_sort sides.right
  pub numbers : TermHasOneSortPerNumber (bare sides.left)
  pub well_formed : IsWellFormedRule (bare_rule sides)
