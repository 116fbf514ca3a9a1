-- The two sides of a rule with the profiles of their operations, and rules that are of a signature.
use Rattle.std.specs.Prelude.{◌≡◌, ℕ, List, Some, slice_get, map}
use Rattle.std.proofs.Props.{props}
use Rattle.std.specs.Coded.{Unit-prop}
use Rattle.lotos_base.specs.Signature.{Signature}
use Rattle.lotos_base.specs.Sorting.{Occurs}
use Rattle.sort_terms.specs.ProfiledTerm.{ProfiledTerm, ProfiledTerms, profiled_variable, profiled_node, no_profiled_terms, profiled_term_then, head_sort, FitsProfiles, bare, IsOf, AreOf}
use Rattle.sort_terms.specs.SignatureLemmas.{FitsProfiles-prop}
use Rattle.sort_terms.specs.SortedView.{profiled_in}
use Rattle.path_order.specs.declared.rule.Rule.{Rule}

-- the two sides of a rule, as terms with profiles
pub record Sides : Type 0 where
  pub left : ProfiledTerm
  pub right : ProfiledTerm

-- the two sides
abbrev pub sides_of : Rule → Sides
sides_of rule = record { left = profiled_in rule.left; right = profiled_in rule.right }

-- the sides of each of the rules
abbrev pub all_sides : List Rule → List Sides
all_sides rules = map sides_of rules

-- The sides are of the signature, so they carry its profiles; each operation in them has the arguments of its profile;
-- they have one sort; and a variable number has one sort in the left side.
pub record AreSidesOver (signature : Signature) (sides : Sides) : Type 0 where
  pub left_is_of : IsOf signature sides.left
  pub right_is_of : IsOf signature sides.right
  pub left_fits : FitsProfiles sides.left
  pub right_fits : FitsProfiles sides.right
  pub one_sort : head_sort sides.left ≡ head_sort sides.right
  pub numbers : (n r s : ℕ) → Occurs n r (bare sides.left) → Occurs n s (bare sides.left) → r ≡ s

-- Each of several sides are so.
abbrev pub AreAllOver : Signature → List Sides → Type 0
AreAllOver signature all = (k : ℕ) (sides : Sides) → slice_get all k ≡ Some sides → AreSidesOver signature sides

-- The sides of each of the rules are so.
abbrev pub AreRulesOver : Signature → List Rule → Type 0
AreRulesOver signature rules = AreAllOver signature (all_sides rules)

-- ---- These facts have at most one proof, as facts kept beside code must.

mutual
  pub IsOf-prop : (signature : Signature) (t : ProfiledTerm) → IsProp (IsOf signature t)
  IsOf-prop signature (profiled_variable n s) = hlevel props
  IsOf-prop signature (profiled_node f operation ts) = hlevel (props, AreOf-prop signature ts)

  pub AreOf-prop : (signature : Signature) (ts : ProfiledTerms) → IsProp (AreOf signature ts)
  AreOf-prop signature no_profiled_terms = Unit-prop
  AreOf-prop signature (profiled_term_then t ts) = hlevel (props, IsOf-prop signature t, AreOf-prop signature ts)

pub AreSidesOver-prop : (signature : Signature) (sides : Sides) → IsProp (AreSidesOver signature sides)
AreSidesOver-prop signature sides =
    hlevel (
      props,
      IsOf-prop signature sides.left,
      IsOf-prop signature sides.right,
      FitsProfiles-prop sides.left,
      FitsProfiles-prop
          sides.right,
    )

pub AreAllOver-prop : (signature : Signature) (all : List Sides) → IsProp (AreAllOver signature all)
AreAllOver-prop signature all = let one = AreSidesOver-prop signature in hlevel (props, one)
