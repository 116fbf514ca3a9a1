-- Worked cases of orientation: which rules small data give under which order, or which equation cannot be oriented, and
-- the chosen forms of some terms.
use Rattle.std.specs.Prelude.{ℕ, List, [], ◌∷◌}
use Rattle.lotos_base.specs.Term.{Term, variable, node, no_terms, term_then}
use Rattle.lotos_base.specs.Equation.{Equation}
use Rattle.lotos_base.specs.SmallData.{example_equation, nought, successor, plus, x_natural, y_natural, natural_data}
use Rattle.rewriting_theory.specs.Rule.{Rule}
use Rattle.rewriting_theory.specs.ChosenForm.{Chosen}
use Rattle.rewriting_theory.specs.Orientation.{NumberedRule, GiveRules, IsOrientation, IsFirstUnorientable}
use Rattle.rewriting_theory.specs.Termination.{IsArgument, Descends}
use Rattle.rewriting_theory.specs.OrderCases.{later_above, compared_from_right, with_greatest, x, y}

-- a constant, an operation on one term and one on two terms, by their numbers
abbrev pub constant : ℕ → Term
constant operation = node operation no_terms

abbrev pub on_one : ℕ → Term → Term
on_one operation t = node operation (term_then t no_terms)

abbrev pub on_two : ℕ → Term → Term → Term
on_two operation t u = node operation (term_then t (term_then u no_terms))

-- a third variable beside x and y
abbrev pub z : Term
z = variable 2 0

-- the equation number, with its sides in this order
abbrev pub rule_from_equation : ℕ → Term → Term → NumberedRule
rule_from_equation equation left right = record { equation = equation; rule = record { left = left; right = right } }

-- an equation by its sides
abbrev pub equation_with_sides : Term → Term → Equation
equation_with_sides left right = example_equation [] left right

-- ---- x + y = y + x and x = x, where + is the only operation

abbrev pub sum_of_terms : Term → Term → Term
sum_of_terms t u = on_two 0 t u

-- neither side of the first equation is greater, by either status; the second one is dropped
pub record CommutativeCases : Type 0 where
  pub from_the_left : IsFirstUnorientable later_above (equation_with_sides (sum_of_terms x y) (sum_of_terms y x) ∷ []) 0
  pub from_the_right : IsFirstUnorientable (compared_from_right 0) (equation_with_sides (sum_of_terms x y) (sum_of_terms y x) ∷ []) 0
  pub second_of_two : IsFirstUnorientable later_above
      (equation_with_sides x x ∷ equation_with_sides (sum_of_terms x y) (sum_of_terms y x) ∷ []) 1
  pub identical : GiveRules later_above 0 (equation_with_sides x x ∷ []) []
  pub numbers_kept : GiveRules later_above 0 (equation_with_sides x x ∷ equation_with_sides (sum_of_terms x x) x ∷ [])
      (rule_from_equation 1 (sum_of_terms x x) x ∷ [])

-- ---- 0, a (here the member) and +, with (x + y) + z = x + (y + z), x + 0 = x and 0 + x = x

abbrev pub zero_term : Term
zero_term = constant 0

abbrev pub member : Term
member = constant 1

abbrev pub add : Term → Term → Term
add t u = on_two 2 t u

abbrev pub group_equations : List Equation
group_equations =
    equation_with_sides (add (add x y) z) (add x (add y z)) ∷ equation_with_sides (add x zero_term) x
    ∷ equation_with_sides (add zero_term x) x ∷ []

abbrev pub to_the_right : List Rule
to_the_right =
    record { left = add (add x y) z; right = add x (add y z) }
    ∷ record { left = add x zero_term; right = x }
    ∷ record { left = add zero_term x; right = x }
    ∷ []

abbrev pub to_the_left : List Rule
to_the_left =
    record { left = add x (add y z); right = add (add x y) z }
    ∷ record { left = add x zero_term; right = x }
    ∷ record { left = add zero_term x; right = x }
    ∷ []

-- compared from the left, sums are grouped to the right, and the other way round
pub record GroupCases : Type 0 where
  pub from_the_left : GiveRules later_above 0 group_equations
      (rule_from_equation 0 (add (add x y) z) (add x (add y z))
      ∷ rule_from_equation 1 (add x zero_term) x
      ∷ rule_from_equation 2 (add zero_term x) x
      ∷ [])
  pub grouped_to_the_right : Chosen to_the_right (add (add member member) (add zero_term member)) (add member (add member member))
  pub zero_right : Chosen to_the_right (add member zero_term) member
  pub zero_left : Chosen to_the_right (add zero_term member) member
  pub zero_alone : Chosen to_the_right zero_term zero_term
  pub from_the_right : GiveRules (compared_from_right 2) 0 group_equations
      (rule_from_equation 0 (add x (add y z)) (add (add x y) z)
      ∷ rule_from_equation 1 (add x zero_term) x
      ∷ rule_from_equation 2 (add zero_term x) x
      ∷ [])
  pub grouped_to_the_left : Chosen to_the_left (add (add member member) (add zero_term member)) (add (add member member) member)

-- ---- a and f of one sort with f(f(x)) = f(x), and their copies a and k of another sort

abbrev pub copied_equations : List Equation
copied_equations =
    equation_with_sides (on_one 1 (on_one 1 (variable 0 0))) (on_one 1 (variable 0 0))
    ∷ equation_with_sides (on_one 3 (on_one 3 (variable 0 1))) (on_one 3 (variable 0 1))
    ∷ []

abbrev pub copied_rules : List Rule
copied_rules =
    record { left = on_one 1 (on_one 1 (variable 0 0)); right = on_one 1 (variable 0 0) }
    ∷ record { left = on_one 3 (on_one 3 (variable 0 1)); right = on_one 3 (variable 0 1) }
    ∷ []

pub record CopiedCases : Type 0 where
  pub rules : GiveRules later_above 0 copied_equations
      (rule_from_equation 0 (on_one 1 (on_one 1 (variable 0 0))) (on_one 1 (variable 0 0))
      ∷ rule_from_equation 1 (on_one 3 (on_one 3 (variable 0 1))) (on_one 3 (variable 0 1))
      ∷ [])
  pub copy : Chosen copied_rules (on_one 3 (on_one 3 (constant 2))) (on_one 3 (constant 2))
  pub first : Chosen copied_rules (on_one 1 (on_one 1 (on_one 1 (constant 0)))) (on_one 1 (constant 0))

-- ---- a, f and g with f(x) = g(x)

-- the later operation is rewritten to the earlier one, unless the order puts the earlier one above
pub record RankedCases : Type 0 where
  pub as_declared : GiveRules later_above 0 (equation_with_sides (on_one 1 x) (on_one 2 x) ∷ [])
      (rule_from_equation 0 (on_one 2 x) (on_one 1 x) ∷ [])
  pub to_the_earlier : Chosen (record { left = on_one 2 x; right = on_one 1 x } ∷ []) (on_one 2 (constant 0)) (on_one 1 (constant 0))
  pub by_order : GiveRules (with_greatest 1 3) 0 (equation_with_sides (on_one 1 x) (on_one 2 x) ∷ [])
      (rule_from_equation 0 (on_one 1 x) (on_one 2 x) ∷ [])
  pub to_the_later : Chosen (record { left = on_one 1 x; right = on_one 2 x } ∷ []) (on_one 1 (constant 0)) (on_one 2 (constant 0))

-- ---- a, s and f with f(x, s(y)) = f(y, y)

-- only compared from the right can the equation be oriented
pub record StatusCases : Type 0 where
  pub from_the_left : IsFirstUnorientable later_above (equation_with_sides (on_two 2 x (on_one 1 y)) (on_two 2 y y) ∷ []) 0
  pub from_the_right : GiveRules (compared_from_right 2) 0 (equation_with_sides (on_two 2 x (on_one 1 y)) (on_two 2 y y) ∷ [])
      (rule_from_equation 0 (on_two 2 x (on_one 1 y)) (on_two 2 y y) ∷ [])
  pub chosen : Chosen (record { left = on_two 2 x (on_one 1 y); right = on_two 2 y y } ∷ [])
      (on_two 2 (constant 0) (on_one 1 (constant 0))) (on_two 2 (constant 0) (constant 0))

-- ---- Natural numbers: 0 + x = x and Succ(x) + y = Succ(x + y)

abbrev pub addition_rules : List Rule
addition_rules =
    record { left = plus nought x_natural; right = x_natural }
    ∷ record { left = plus (successor x_natural) y_natural; right = successor (plus x_natural y_natural) }
    ∷ []

pub record AdditionCases : Type 0 where
  pub rules : IsOrientation later_above natural_data
      (rule_from_equation 0 (plus nought x_natural) x_natural
      ∷ rule_from_equation 1 (plus (successor x_natural) y_natural) (successor (plus x_natural y_natural))
      ∷ [])
  -- 2 + 1 is 3
  pub sum_of_numbers : Chosen addition_rules (plus (successor (successor nought)) (successor nought))
      (successor (successor (successor nought)))
  -- a variable stays, and Succ is taken out of a sum
  pub open_sum : Chosen addition_rules (plus (successor x_natural) y_natural) (successor (plus x_natural y_natural))
  pub stuck : Chosen addition_rules (plus x_natural nought) (plus x_natural nought)

-- ---- Steps of a program that puts terms in normal form: with 0 + x = x

pub record DescentCases : Type 0 where
  pub first_argument : Descends addition_rules (plus nought (successor nought)) nought
  pub second_argument : Descends addition_rules (plus nought (successor nought)) (successor nought)
  pub no_deeper_step : ¬ IsArgument (plus nought (successor (plus nought nought))) (plus nought nought)
  pub link : Descends addition_rules (plus nought (plus nought nought)) (plus nought nought)
  pub itself : ¬ IsArgument nought nought
