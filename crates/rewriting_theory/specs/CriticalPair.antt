-- Critical pairs: the ways in which two left sides overlap, and what the two rules make of the overlap (Baader and
-- Nipkow, 6.2).
use Rattle.std.specs.Prelude.{◌≡◌, ℕ, List, [], Some}
use Rattle.lotos_base.specs.Term.{Term}
use Rattle.lotos_base.specs.Path.{subterm, put_at}
use Rattle.lotos_base.specs.Substitution.{Substitution, substituted, renaming}
use Rattle.lotos_base.specs.Canon.{KeepsApart}
use Rattle.rewriting_theory.specs.Rule.{Rule, IsRuleAt, IsNode}
use Rattle.rewriting_theory.specs.Unification.{IsMostGeneral, HasCommonInstance, OccursInEither, AreApart}

-- A place at which the left side of the second rule may overlap that of the first one: a path of the first left side
-- that leads to no variable. A rule with itself at the root is excluded. The rules are given by their numbers.
pub record OverlapPlace (rules : List Rule) (first second : ℕ) (path : List ℕ) : Type 0 where
  pub first_rule : Rule
  pub second_rule : Rule
  pub part : Term
  pub is_first : IsRuleAt rules first first_rule
  pub is_second : IsRuleAt rules second second_rule
  pub is_part : subterm path first_rule.left ≡ Some part
  pub no_variable : IsNode part
  pub no_same_root : first ≡ second → ¬ (path ≡ [])

-- The left sides do overlap there: the part and the second left side have a common instance, variables apart.
abbrev pub Overlaps : {rules : List Rule} {first second : ℕ} {path : List ℕ}
    → OverlapPlace rules first second path → Type 0
Overlaps place = HasCommonInstance place.part place.second_rule.left

-- A pair: the numbers of its two rules, the path in the first left side, the overlapping instance of the first left
-- side, and what the first rule and the second rule make of it.
pub record CriticalPair : Type 0 where
  pub first : ℕ
  pub second : ℕ
  pub path : List ℕ
  pub peak : Term
  pub left : Term
  pub right : Term

-- The pair is a critical pair of the rules. The variables of the second rule are renamed apart from those of the first
-- one, and a most general unifier makes the part and the second left side one term. The peak is its instance of the
-- first left side; the left term is its instance of the first right side; the right term is the peak with its instance
-- of the second right side at the path.
pub record IsCriticalPair (rules : List Rule) (pair : CriticalPair) : Type 0 where
  pub place : OverlapPlace rules pair.first pair.second pair.path
  pub number : ℕ → ℕ → ℕ
  pub keeps : KeepsApart number place.second_rule.left
  pub apart : AreApart place.first_rule.left (substituted (renaming number) place.second_rule.left)
  pub values : Substitution
  pub general : IsMostGeneral
      (OccursInEither place.first_rule.left (substituted (renaming number) place.second_rule.left))
      place.part (substituted (renaming number) place.second_rule.left) values
  pub is_peak : substituted values place.first_rule.left ≡ pair.peak
  pub is_left : substituted values place.first_rule.right ≡ pair.left
  pub is_right : put_at pair.path (substituted values (substituted (renaming number) place.second_rule.right)) pair.peak
      ≡ Some pair.right
