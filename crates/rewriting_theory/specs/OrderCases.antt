-- Worked cases of the path order: each of its four cases both ways, with either status.
use Rattle.std.specs.Prelude.{ℕ, if◌then◌else◌, nat_eq}
use Rattle.lotos_base.specs.Term.{Term, variable, node, no_terms, term_then}
use Rattle.rewriting_theory.specs.Precedence.{from_left, from_right, Precedence}
use Rattle.rewriting_theory.specs.PathOrder.{IsGreater}

-- ---- Precedences

-- a later operation is above an earlier one, and all arguments are compared from the left
abbrev pub later_above : Precedence
later_above = record { rank = λ f. f; status = λ f. from_left }

-- the same with one operation compared from the right
abbrev pub compared_from_right : ℕ → Precedence
compared_from_right operation = record { rank = λ f. f; status = λ f. if nat_eq f operation then from_right else from_left }

-- the same with one operation above all others, of which there are fewer than the bound
abbrev pub with_greatest : ℕ → ℕ → Precedence
with_greatest operation bound = record { rank = λ f. if nat_eq f operation then bound else f; status = λ f. from_left }

-- no operation is above another one
abbrev pub all_level : Precedence
all_level = record { rank = λ f. 0; status = λ f. from_left }

-- ---- Terms: constants a and b, an operation s on one term, f on two terms, g on one term, each with a greater number
-- ---- than those before it; variables x and y.

abbrev pub constant_a : Term
constant_a = node 0 no_terms

abbrev pub b : Term
b = node 1 no_terms

abbrev pub s : Term → Term
s t = node 2 (term_then t no_terms)

abbrev pub operation_f : Term → Term → Term
operation_f t u = node 3 (term_then t (term_then u no_terms))

abbrev pub g : Term → Term
g t = node 4 (term_then t no_terms)

abbrev pub x : Term
x = variable 0 0

abbrev pub y : Term
y = variable 1 0

-- the operation f on one term, which no signature with f has
abbrev pub short : Term → Term
short t = node 3 (term_then t no_terms)

-- a term is greater than its variables, and than no other
pub record VariableCases : Type 0 where
  pub below : IsGreater later_above (g x) x
  pub deep : IsGreater later_above (operation_f constant_a (g y)) y
  pub other : ¬ IsGreater later_above (g x) y
  pub other_sort : ¬ IsGreater later_above (g x) (variable 0 1)
  pub itself : ¬ IsGreater later_above x x
  pub above : ¬ IsGreater later_above x constant_a

-- a term is greater than its arguments, and than what they are greater than
pub record ArgumentCases : Type 0 where
  pub itself : IsGreater later_above (g constant_a) constant_a
  pub second : IsGreater later_above (operation_f constant_a b) b
  pub deeper : IsGreater later_above (g (g constant_a)) constant_a
  pub beyond : IsGreater all_level (g (operation_f (g constant_a) x)) (operation_f constant_a x)
  pub back : ¬ IsGreater later_above constant_a (g constant_a)
  pub low_head : IsGreater later_above (operation_f (g constant_a) b) (g constant_a)
  pub no_argument : ¬ IsGreater later_above (operation_f constant_a b) (g constant_a)

-- an operation above another one
pub record RankCases : Type 0 where
  pub constants : IsGreater later_above b constant_a
  pub constants_back : ¬ IsGreater later_above constant_a b
  pub copies : IsGreater later_above (g x) (operation_f x x)
  pub copies_back : ¬ IsGreater later_above (operation_f x x) (g x)
  pub other_variable : ¬ IsGreater later_above (g x) (operation_f x y)
  pub nested : IsGreater later_above (g x) (operation_f (operation_f x constant_a) (operation_f b x))
  pub level : ¬ IsGreater all_level b constant_a
  pub greatest : IsGreater (with_greatest 0 5) constant_a b

-- one operation, compared from the left
pub record LeftCases : Type 0 where
  pub first_place : IsGreater later_above (operation_f b constant_a) (operation_f constant_a b)
  pub first_place_back : ¬ IsGreater later_above (operation_f constant_a b) (operation_f b constant_a)
  pub second_place : IsGreater later_above (operation_f x b) (operation_f x constant_a)
  pub second_place_back : ¬ IsGreater later_above (operation_f x constant_a) (operation_f x b)
  -- the second argument of the lesser term is not below the greater term
  pub not_every_argument : ¬ IsGreater later_above (operation_f (g x) y) (operation_f x (g y))
  pub associative : IsGreater later_above (operation_f (operation_f x y) x) (operation_f x (operation_f y x))
  pub commutative : ¬ IsGreater later_above (operation_f x y) (operation_f y x)
  pub identical : ¬ IsGreater later_above (operation_f x y) (operation_f x y)
  -- lists of different lengths are not compared
  pub shorter : ¬ IsGreater later_above (short b) (operation_f constant_a b)
  pub longer : ¬ IsGreater later_above (operation_f b constant_a) (short b)

-- one operation, compared from the right
pub record RightCases : Type 0 where
  pub last_place : IsGreater (compared_from_right 3) (operation_f constant_a b) (operation_f b constant_a)
  pub last_place_back : ¬ IsGreater (compared_from_right 3) (operation_f b constant_a) (operation_f constant_a b)
  pub earlier_place : IsGreater (compared_from_right 3) (operation_f b x) (operation_f constant_a x)
  pub not_every_argument : ¬ IsGreater (compared_from_right 3) (operation_f y (g x)) (operation_f (g y) x)
  pub associative : IsGreater (compared_from_right 3) (operation_f x (operation_f y x)) (operation_f (operation_f x y) x)
  pub associative_back : ¬ IsGreater (compared_from_right 3) (operation_f (operation_f x y) x) (operation_f x (operation_f y x))
  pub only_from_the_right : IsGreater (compared_from_right 3) (operation_f x (s y)) (operation_f y y)
  pub not_from_the_left : ¬ IsGreater later_above (operation_f x (s y)) (operation_f y y)
