-- Worked cases of critical pairs: which there are, their peaks, and whether the rules are confluent.
use Rattle.std.specs.Prelude.{List, [], ◌∷◌}
use Rattle.lotos_base.specs.Term.{variable}
use Rattle.rewriting_theory.specs.Rewriting.{AreConfluent}
use Rattle.rewriting_theory.specs.ChosenForm.{Chosen}
use Rattle.rewriting_theory.specs.CriticalPair.{CriticalPair}
use Rattle.rewriting_theory.specs.PairList.{AreCriticalPairs, IsFirstUnjoined}
use Rattle.rewriting_theory.specs.PairListLaws.{RewritesToTwo}
use Rattle.rewriting_theory.specs.OrientationCases.{constant, on_one, on_two, add, zero_term, to_the_right, to_the_left, copied_rules}
use Rattle.worked_cases.specs.Samples.{var, sample_critical_pair, two_results, one_rule, twice, meets, never_both, from_the_right}

-- f(a) = b and f(x) = c overlap at the root, in both orders; f(a) has the two results b and c
abbrev pub two_results_pairs : List CriticalPair
two_results_pairs =
    sample_critical_pair 0 1 [] (on_one 3 (constant 0)) (constant 1) (constant 2)
    ∷ sample_critical_pair 1 0 [] (on_one 3 (constant 0)) (constant 2) (constant 1)
    ∷ []

pub record TwoResultCases : Type 0 where
  pub pairs : AreCriticalPairs two_results two_results_pairs
  pub first : IsFirstUnjoined two_results two_results_pairs 0 (constant 1) (constant 2)
  pub two : RewritesToTwo two_results (on_one 3 (constant 0)) (constant 1) (constant 2)
  pub refuted : ¬ AreConfluent two_results
  -- the first rule that matches counts, whatever a later one would give
  pub by_the_first : Chosen two_results (on_one 3 (constant 0)) (constant 1)
  pub not_by_the_second : ¬ Chosen two_results (on_one 3 (constant 0)) (constant 2)

-- (x + y) + z = x + (y + z), x + 0 = x and 0 + x = x have seven pairs, which all join
abbrev pub sums_pairs : List CriticalPair
sums_pairs =
    sample_critical_pair 0 0 (0 ∷ []) (add (add (add (var 0) (var 1)) (var 2)) (var 3))
    (add (add (var 0) (var 1)) (add (var 2) (var 3)))
    (add (add (var 0) (add (var 1) (var 2))) (var 3))
    ∷ sample_critical_pair 0 1 [] (add (add (var 0) (var 1)) zero_term) (add (var 0) (add (var 1) zero_term)) (add (var 0) (var 1))
    ∷ sample_critical_pair 0 1 (0 ∷ []) (add (add (var 0) zero_term) (var 1)) (add (var 0) (add zero_term (var 1))) (add (var 0) (var 1))
    ∷ sample_critical_pair 0 2 (0 ∷ []) (add (add zero_term (var 0)) (var 1)) (add zero_term (add (var 0) (var 1))) (add (var 0) (var 1))
    ∷ sample_critical_pair 1 0 [] (add (add (var 0) (var 1)) zero_term) (add (var 0) (var 1)) (add (var 0) (add (var 1) zero_term))
    ∷ sample_critical_pair 1 2 [] (add zero_term zero_term) zero_term zero_term
    ∷ sample_critical_pair 2 1 [] (add zero_term zero_term) zero_term zero_term
    ∷ []

pub record SumCases : Type 0 where
  pub pairs : AreCriticalPairs to_the_right sums_pairs
  pub confluent : AreConfluent to_the_right

-- f(f(x)) = f(x) overlaps itself at the argument, and so does its copy over another sort; both pairs join
abbrev pub copies_pairs : List CriticalPair
copies_pairs =
    sample_critical_pair 0 0 (0 ∷ []) (on_one 1 (on_one 1 (on_one 1 (variable 0 0)))) (on_one 1 (on_one 1 (variable 0 0)))
    (on_one 1 (on_one 1 (variable 0 0)))
    ∷ sample_critical_pair 1 1 (0 ∷ []) (on_one 3 (on_one 3 (on_one 3 (variable 0 1)))) (on_one 3 (on_one 3 (variable 0 1)))
    (on_one 3 (on_one 3 (variable 0 1)))
    ∷ []

pub record CopyCases : Type 0 where
  pub pairs : AreCriticalPairs copied_rules copies_pairs
  pub confluent : AreConfluent copied_rules

-- g(x) = f(x) overlaps nothing but itself at the root, which is no pair
pub record OneRuleCases : Type 0 where
  pub pairs : AreCriticalPairs one_rule []
  pub confluent : AreConfluent one_rule

-- f(f(x)) = g(x) overlaps itself at the argument: f(f(f(x))) rewrites to g(f(x)) and to f(g(x)), which are irreducible, so
-- pairs at the root alone would not tell
abbrev pub twice_pairs : List CriticalPair
twice_pairs =
    sample_critical_pair 0 0 (0 ∷ []) (on_one 2 (on_one 2 (on_one 2 (var 0)))) (on_one 1 (on_one 2 (var 0))) (on_one 2 (on_one 1 (var 0)))
    ∷ []

pub record TwiceCases : Type 0 where
  pub pairs : AreCriticalPairs twice twice_pairs
  pub first : IsFirstUnjoined twice twice_pairs 0 (on_one 1 (on_one 2 (var 0))) (on_one 2 (on_one 1 (var 0)))
  pub two : RewritesToTwo twice (on_one 2 (on_one 2 (on_one 2 (var 0)))) (on_one 1 (on_one 2 (var 0))) (on_one 2 (on_one 1 (var 0)))
  pub refuted : ¬ AreConfluent twice

-- a variable that stands twice in a left side: meet(f(x), f(x)) is the one overlap of meet(x, x) and meet(f(x), y)
abbrev pub meets_pairs : List CriticalPair
meets_pairs =
    sample_critical_pair 0 1 [] (on_two 2 (on_one 1 (var 0)) (on_one 1 (var 0))) (on_one 1 (var 0)) (on_one 1 (var 0))
    ∷ sample_critical_pair 1 0 [] (on_two 2 (on_one 1 (var 0)) (on_one 1 (var 0))) (on_one 1 (var 0)) (on_one 1 (var 0))
    ∷ []

pub record MeetCases : Type 0 where
  pub pairs : AreCriticalPairs meets meets_pairs
  pub confluent : AreConfluent meets

-- p(x, x) and p(y, f(y)) have no common instance, since no term is y and f(y)
pub record ApartCases : Type 0 where
  pub pairs : AreCriticalPairs never_both []
  pub confluent : AreConfluent never_both

-- the sums once more, compared from the right: x + (y + z) = (x + y) + z, x + 0 = x and 0 + x = x have seven pairs, which
-- all join
abbrev pub left_sums_pairs : List CriticalPair
left_sums_pairs =
    sample_critical_pair 0 0 (1 ∷ []) (add (var 0) (add (var 1) (add (var 2) (var 3))))
    (add (add (var 0) (var 1)) (add (var 2) (var 3)))
    (add (var 0) (add (add (var 1) (var 2)) (var 3)))
    ∷ sample_critical_pair 0 1 (1 ∷ []) (add (var 0) (add (var 1) zero_term)) (add (add (var 0) (var 1)) zero_term) (add (var 0) (var 1))
    ∷ sample_critical_pair 0 2 [] (add zero_term (add (var 0) (var 1))) (add (add zero_term (var 0)) (var 1)) (add (var 0) (var 1))
    ∷ sample_critical_pair 0 2 (1 ∷ []) (add (var 0) (add zero_term (var 1))) (add (add (var 0) zero_term) (var 1)) (add (var 0) (var 1))
    ∷ sample_critical_pair 1 2 [] (add zero_term zero_term) zero_term zero_term
    ∷ sample_critical_pair 2 0 [] (add zero_term (add (var 0) (var 1))) (add (var 0) (var 1)) (add (add zero_term (var 0)) (var 1))
    ∷ sample_critical_pair 2 1 [] (add zero_term zero_term) zero_term zero_term
    ∷ []

-- f(x, s(y)) = f(y, y), which only a right status orients, overlaps nothing
pub record RightStatusCases : Type 0 where
  pub pairs : AreCriticalPairs from_the_right []
  pub confluent : AreConfluent from_the_right
  pub sums : AreCriticalPairs to_the_left left_sums_pairs
  pub sums_confluent : AreConfluent to_the_left
