-- The worked cases of the path order, by its test.
use Rattle.std.proofs.Common.{◌≡◌, true, false, refl}
use Rattle.lotos_base.specs.Term.{Term, variable}
use Rattle.rewriting_theory.specs.Precedence.{Precedence}
use Rattle.rewriting_theory.specs.PathOrder.{IsGreater}
use Rattle.rewriting_theory.specs.OrderTest.{is_greater}
use Rattle.rewriting_theory.specs.OrderCases.{later_above, compared_from_right, with_greatest, all_level, constant_a, b, s, operation_f, g, x, y, short, VariableCases, ArgumentCases, RankCases, LeftCases, RightCases}
use Rattle.rewriting_theory.proofs.OrderLemmas.{greater_decided}

pub is : (p : Precedence) (t u : Term) → is_greater p t u ≡ true → IsGreater p t u
is p t u e = (greater_decided p t u).0 e

pub is_not : (p : Precedence) (t u : Term) → is_greater p t u ≡ false → IsGreater p t u → ⊥
is_not p t u e g = let other : is_greater p t u ≡ true = (greater_decided p t u).1 g in cc

pub variable_cases : VariableCases
variable_cases = record {
  below = is later_above (g x) x refl;
  deep = is later_above (operation_f constant_a (g y)) y refl;
  other = is_not later_above (g x) y refl;
  other_sort = is_not later_above (g x) (variable 0 1) refl;
  itself = is_not later_above x x refl;
  above = is_not later_above x constant_a refl;
}

pub argument_cases : ArgumentCases
argument_cases = record {
  itself = is later_above (g constant_a) constant_a refl;
  second = is later_above (operation_f constant_a b) b refl;
  deeper = is later_above (g (g constant_a)) constant_a refl;
  beyond = is all_level (g (operation_f (g constant_a) x)) (operation_f constant_a x) refl;
  back = is_not later_above constant_a (g constant_a) refl;
  low_head = is later_above (operation_f (g constant_a) b) (g constant_a) refl;
  no_argument = is_not later_above (operation_f constant_a b) (g constant_a) refl;
}

pub rank_cases : RankCases
rank_cases = record {
  constants = is later_above b constant_a refl;
  constants_back = is_not later_above constant_a b refl;
  copies = is later_above (g x) (operation_f x x) refl;
  copies_back = is_not later_above (operation_f x x) (g x) refl;
  other_variable = is_not later_above (g x) (operation_f x y) refl;
  nested = is later_above (g x) (operation_f (operation_f x constant_a) (operation_f b x)) refl;
  level = is_not all_level b constant_a refl;
  greatest = is (with_greatest 0 5) constant_a b refl;
}

pub left_cases : LeftCases
left_cases = record {
  first_place = is later_above (operation_f b constant_a) (operation_f constant_a b) refl;
  first_place_back = is_not later_above (operation_f constant_a b) (operation_f b constant_a) refl;
  second_place = is later_above (operation_f x b) (operation_f x constant_a) refl;
  second_place_back = is_not later_above (operation_f x constant_a) (operation_f x b) refl;
  not_every_argument = is_not later_above (operation_f (g x) y) (operation_f x (g y)) refl;
  associative = is later_above (operation_f (operation_f x y) x) (operation_f x (operation_f y x)) refl;
  commutative = is_not later_above (operation_f x y) (operation_f y x) refl;
  identical = is_not later_above (operation_f x y) (operation_f x y) refl;
  shorter = is_not later_above (short b) (operation_f constant_a b) refl;
  longer = is_not later_above (operation_f b constant_a) (short b) refl;
}

pub right_cases : RightCases
right_cases = record {
  last_place = is (compared_from_right 3) (operation_f constant_a b) (operation_f b constant_a) refl;
  last_place_back = is_not (compared_from_right 3) (operation_f b constant_a) (operation_f constant_a b) refl;
  earlier_place = is (compared_from_right 3) (operation_f b x) (operation_f constant_a x) refl;
  not_every_argument = is_not (compared_from_right 3) (operation_f y (g x)) (operation_f (g y) x) refl;
  associative = is (compared_from_right 3) (operation_f x (operation_f y x)) (operation_f (operation_f x y) x) refl;
  associative_back = is_not (compared_from_right 3) (operation_f (operation_f x y) x) (operation_f x (operation_f y x)) refl;
  only_from_the_right = is (compared_from_right 3) (operation_f x (s y)) (operation_f y y) refl;
  not_from_the_left = is_not later_above (operation_f x (s y)) (operation_f y y) refl;
}
