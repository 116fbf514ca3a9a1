-- Small sets of rules for the worked cases, beside those of the cases of orientation.
use Rattle.std.specs.Prelude.{ℕ, List, [], ◌∷◌}
use Rattle.lotos_base.specs.Term.{Term, variable}
use Rattle.rewriting_theory.specs.Rule.{Rule}
use Rattle.rewriting_theory.specs.CriticalPair.{CriticalPair}
use Rattle.rewriting_theory.specs.OrientationCases.{constant, on_one, on_two}

-- a variable of the first sort, by its number
abbrev pub var : ℕ → Term
var n = variable n 0

-- the rule with these sides
abbrev pub turned_to : Term → Term → Rule
turned_to left right = record { left = left; right = right }

-- the pair of two rules at a path, with its peak and its two sides
abbrev pub sample_critical_pair : ℕ → ℕ → List ℕ → Term → Term → Term → CriticalPair
sample_critical_pair first second path peak left right =
    record { first = first; second = second; path = path; peak = peak; left = left; right = right }

-- f(a) = b and f(x) = c, where a, b, c and f are the operations 0 to 3
abbrev pub two_results : List Rule
two_results = turned_to (on_one 3 (constant 0)) (constant 1) ∷ turned_to (on_one 3 (var 0)) (constant 2) ∷ []

-- g(x) = f(x), where f and g are the operations 1 and 2
abbrev pub one_rule : List Rule
one_rule = turned_to (on_one 2 (var 0)) (on_one 1 (var 0)) ∷ []

-- f(f(x)) = g(x), where g and f are the operations 1 and 2
abbrev pub twice : List Rule
twice = turned_to (on_one 2 (on_one 2 (var 0))) (on_one 1 (var 0)) ∷ []

-- meet(x, x) = x and meet(f(x), y) = y, where f and meet are the operations 1 and 2
abbrev pub meets : List Rule
meets = turned_to (on_two 2 (var 0) (var 0)) (var 0) ∷ turned_to (on_two 2 (on_one 1 (var 0)) (var 1)) (var 1) ∷ []

-- p(x, x) = a and p(y, f(y)) = b, where a, b, f and p are the operations 0 to 3
abbrev pub never_both : List Rule
never_both =
    turned_to (on_two 3 (var 0) (var 0)) (constant 0) ∷ turned_to (on_two 3 (var 0) (on_one 2 (var 0))) (constant 1) ∷ []

-- f(x, s(y)) = f(y, y), where s and f are the operations 1 and 2: only arguments compared from the right orient it
abbrev pub from_the_right : List Rule
from_the_right = turned_to (on_two 2 (var 0) (on_one 1 (var 1))) (on_two 2 (var 1) (var 1)) ∷ []
