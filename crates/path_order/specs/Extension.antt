-- Rules to which those of one more equation were added.
use Rattle.std.specs.Prelude.{◌≡◌, ℕ, List, [], ◌∷◌, ◌++◌}
use Rattle.lotos_base.specs.Signature.{Signature}
use Rattle.lotos_base.specs.Term.{Term}
use Rattle.lotos_base.specs.Sorting.{Occurs}
use Rattle.lotos_base.specs.Equation.{Equation as PlainEquation}
use Rattle.sort_terms.specs.ProfiledTerm.{IsOf}
use Rattle.sort_terms.specs.SortedView.{profiled_in, term_in}
use Rattle.sort_terms.specs.declared.equations.Equation.{Equation}
use Rattle.rewriting_theory.specs.Precedence.{Precedence}
use Rattle.rewriting_theory.specs.Orientation.{NumberedRule, GiveRules}
use Rattle.path_order.specs.RuleSides.{AreRulesOver}
use Rattle.path_order.specs.declared.rule.Rule.{Rule}

-- The new list is the old one with the rules of the equation, which has this number, at its end.
pub record AddsRulesOf (precedence : Precedence) (n : ℕ) (equation : PlainEquation) (old new : List NumberedRule) : Type 0 where
  pub rules : List NumberedRule
  pub given : GiveRules precedence n (equation ∷ []) rules
  pub joined : new ≡ old ++ rules

-- A variable number has one sort in the term.
abbrev pub HasOneSortEach : Term → Type 0
HasOneSortEach t = (n r s : ℕ) → Occurs n r t → Occurs n s t → r ≡ s

-- The sides of the equation are of the signature and have one sort, and a variable number has one sort in each.
pub record IsEquationOf (signature : Signature) (equation : Equation) : Type 0 where
  pub left_is_of : IsOf signature (profiled_in equation.left)
  pub right_is_of : IsOf signature (profiled_in equation.right)
  pub one_sort : equation.left.sort ≡ equation.right.sort
  pub left_numbers : HasOneSortEach (term_in equation.left)
  pub right_numbers : HasOneSortEach (term_in equation.right)

-- Where the equation is of a signature that the old rules are over, the new ones are over it too.
abbrev pub StaysOver : Equation → List Rule → List Rule → Type 0
StaysOver equation old new = (signature : Signature) → IsEquationOf signature equation → AreRulesOver signature old
    → AreRulesOver signature new

-- Both.
pub record Extends (precedence : Precedence) (n : ℕ) (plain : PlainEquation) (equation : Equation) (before : List NumberedRule)
    (after : List NumberedRule) (old new : List Rule) : Type 0 where
  pub adds : AddsRulesOf precedence n plain before after
  pub over : StaysOver equation old new
