-- The worked cases of orientation, by the tests.
use Rattle.std.proofs.Common.{◌≡◌, ◌<◌, inl, inr, ℕ, zero, suc, List, [], ◌∷◌, true, false, refl, subst, arith}
use Rattle.std.specs.Prelude.{Some, slice_get}
use Rattle.std.proofs.lemmas.Option.{same_Some}
use Rattle.lotos_base.specs.Term.{Term, variable, no_terms, term_then}
use Rattle.lotos_base.specs.Path.{argument_at}
use Rattle.lotos_base.specs.Tests.{term_eq}
use Rattle.lotos_base.specs.Equation.{Equation}
use Rattle.lotos_base.specs.Equality.{Direction, forward, backward, old_side, new_side}
use Rattle.lotos_base.specs.SmallData.{nought, successor, plus, x_natural, nought_law, successor_law}
use Rattle.rewriting_theory.specs.Precedence.{Precedence}
use Rattle.rewriting_theory.specs.OrderTest.{is_greater}
use Rattle.rewriting_theory.specs.Orientation.{NumberedRule, GiveRules, no_more, dropped, turned_next, IsUnorientable, IsFirstUnorientable}
use Rattle.rewriting_theory.specs.OrderCases.{later_above, compared_from_right, with_greatest, x, y}
use Rattle.rewriting_theory.specs.OrientationCases.{on_one, on_two, z, rule_from_equation, equation_with_sides, sum_of_terms, CommutativeCases, zero_term, add, to_the_right, to_the_left, GroupCases, copied_rules, CopiedCases, RankedCases, StatusCases, addition_rules, AdditionCases, DescentCases}
use Rattle.rewriting_theory.proofs.OrientationLemmas.{unlike, not_greater, turns}
use Rattle.rewriting_theory.proofs.CaseLemmas.{is}
use Rattle.rewriting_theory.proofs.CaseTests.{chosen_found}

-- an equation that is turned in this direction
turned_on : (p : Precedence) (direction : Direction) (n : ℕ) (equation : Equation) (equations : List Equation)
    (rules : List NumberedRule) → term_eq equation.left equation.right ≡ false
    → is_greater p (old_side direction equation) (new_side direction equation) ≡ true
    → GiveRules p (suc n) equations rules
    → GiveRules p n (equation ∷ equations) (rule_from_equation n (old_side direction equation) (new_side direction equation) ∷ rules)
turned_on p direction n equation equations rules differ greater rest =
    turned_next direction refl (unlike equation.left equation.right differ)
    (turns p direction equation (is p (old_side direction equation) (new_side direction equation) greater)) rest

unorientable : (p : Precedence) (equation : Equation) → term_eq equation.left equation.right ≡ false
    → is_greater p equation.left equation.right ≡ false → is_greater p equation.right equation.left ≡ false
    → IsUnorientable p equation
unorientable p equation differ left right = record {
  differ = unlike equation.left equation.right differ;
  not_left = not_greater p equation.left equation.right left;
  not_right = not_greater p equation.right equation.left right;
}

first_of_all : (p : Precedence) (equation : Equation) (equations : List Equation) → IsUnorientable p equation
    → IsFirstUnorientable p (equation ∷ equations) 0
first_of_all p equation equations not =
    record { equation = equation; is_at = refl; unorientable = not; none_before = λ k other before e. absurd (omega arith) }

behind_identical : (p : Precedence) (t : Term) (equations : List Equation) (number : ℕ) → IsFirstUnorientable p equations number
    → IsFirstUnorientable p (equation_with_sides t t ∷ equations) (suc number)
behind_identical p t equations number first =
    record { equation = first.equation; is_at = first.is_at; unorientable = first.unorientable; none_before = earlier }
  where
    earlier : (k : ℕ) (other : Equation) → k < suc number → slice_get (equation_with_sides t t ∷ equations) k ≡ Some other
        → IsUnorientable p other → ⊥
    earlier zero other before e not =
        not.differ (subst (λ (o : Equation). o.left ≡ o.right) (same_Some (equation_with_sides t t) other e) refl)
    earlier (suc k) other before e not = first.none_before k other (omega arith) e not

abbrev commuting : Equation
commuting = equation_with_sides (sum_of_terms x y) (sum_of_terms y x)

pub commutative_cases : CommutativeCases
commutative_cases = record {
  from_the_left = first_of_all later_above commuting [] (unorientable later_above commuting refl refl refl);
  from_the_right = first_of_all (compared_from_right 0) commuting [] (unorientable (compared_from_right 0) commuting refl refl refl);
  second_of_two = behind_identical later_above x (commuting ∷ []) 0
      (first_of_all later_above commuting [] (unorientable later_above commuting refl refl refl));
  identical = dropped refl no_more;
  numbers_kept = dropped refl (turned_on later_above forward 1 (equation_with_sides (sum_of_terms x x) x) [] [] refl refl no_more);
}

pub group_cases : GroupCases
group_cases = record {
  from_the_left = turned_on later_above forward 0 (equation_with_sides (add (add x y) z) (add x (add y z))) _ _ refl refl
      (turned_on later_above forward 1 (equation_with_sides (add x zero_term) x) _ _ refl refl
      (turned_on later_above forward 2 (equation_with_sides (add zero_term x) x) [] [] refl refl no_more));
  grouped_to_the_right = chosen_found 9 to_the_right _ _ refl;
  zero_right = chosen_found 9 to_the_right _ _ refl;
  zero_left = chosen_found 9 to_the_right _ _ refl;
  zero_alone = chosen_found 9 to_the_right _ _ refl;
  from_the_right = turned_on (compared_from_right 2) backward 0 (equation_with_sides (add (add x y) z) (add x (add y z))) _ _ refl refl
      (turned_on (compared_from_right 2) forward 1 (equation_with_sides (add x zero_term) x) _ _ refl refl
      (turned_on (compared_from_right 2) forward 2 (equation_with_sides (add zero_term x) x) [] [] refl refl no_more));
  grouped_to_the_left = chosen_found 9 to_the_left _ _ refl;
}

abbrev once : ℕ → Term → Equation
once operation t = equation_with_sides (on_one operation (on_one operation t)) (on_one operation t)

pub copied_cases : CopiedCases
copied_cases = record {
  rules = turned_on later_above forward 0 (once 1 (variable 0 0)) _ _ refl refl
      (turned_on later_above forward 1 (once 3 (variable 0 1)) [] [] refl refl no_more);
  copy = chosen_found 9 copied_rules _ _ refl;
  first = chosen_found 9 copied_rules _ _ refl;
}

pub ranked_cases : RankedCases
ranked_cases = record {
  as_declared = turned_on later_above backward 0 (equation_with_sides (on_one 1 x) (on_one 2 x)) [] [] refl refl no_more;
  to_the_earlier = chosen_found 9 _ _ _ refl;
  by_order = turned_on (with_greatest 1 3) forward 0 (equation_with_sides (on_one 1 x) (on_one 2 x)) [] [] refl refl no_more;
  to_the_later = chosen_found 9 _ _ _ refl;
}

abbrev lopsided : Equation
lopsided = equation_with_sides (on_two 2 x (on_one 1 y)) (on_two 2 y y)

pub status_cases : StatusCases
status_cases = record {
  from_the_left = first_of_all later_above lopsided [] (unorientable later_above lopsided refl refl refl);
  from_the_right = turned_on (compared_from_right 2) forward 0 lopsided [] [] refl refl no_more;
  chosen = chosen_found 9 _ _ _ refl;
}

pub addition_cases : AdditionCases
addition_cases = record {
  rules = turned_on later_above forward 0 nought_law _ _ refl refl
      (turned_on later_above forward 1 successor_law [] [] refl refl no_more);
  sum_of_numbers = chosen_found 9 addition_rules _ _ refl;
  open_sum = chosen_found 9 addition_rules _ _ refl;
  stuck = chosen_found 9 addition_rules _ _ refl;
}

not_deeper : (k : ℕ)
    → argument_at k (term_then nought (term_then (successor (plus nought nought)) no_terms)) ≡ Some (plus nought nought) → ⊥
not_deeper zero e = cc
not_deeper (suc zero) e = cc
not_deeper (suc (suc k)) e = cc

pub descent_cases : DescentCases
descent_cases = record {
  first_argument = inr (0, refl);
  second_argument = inr (1, refl);
  no_deeper_step = λ at. not_deeper at.0 at.1;
  link = inl (record {
    path = [];
    rule = record { left = plus nought x_natural; right = x_natural };
    is_rule = (0, refl);
    values = λ n s. plus nought nought;
    old = refl;
    new = refl;
  });
  itself = λ at. let e = at.1 in cc;
}
