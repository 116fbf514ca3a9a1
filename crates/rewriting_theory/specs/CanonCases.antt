-- A worked case of the canon: the addition of natural numbers meets all that is asked for one.
use Rattle.lotos_base.specs.Term.{Term}
use Rattle.lotos_base.specs.Equation.{HasSortedSides}
use Rattle.lotos_base.specs.Equality.{Equal}
use Rattle.lotos_base.specs.Canon.{IsCanon}
use Rattle.lotos_base.specs.SmallData.{natural_data, nought, successor, plus}
use Rattle.rewriting_theory.specs.Rewriting.{Terminates, AreConfluent}
use Rattle.rewriting_theory.specs.ChosenForm.{Chooses}
use Rattle.rewriting_theory.specs.CriticalPair.{CriticalPair, IsCriticalPair}
use Rattle.rewriting_theory.specs.OrientationCases.{addition_rules}

-- 0 + x = x and Succ(x) + y = Succ(x + y) do not overlap, so the rules are confluent and the chosen form is a canon
pub record AdditionCanonCases : Type 0 where
  pub sorted : HasSortedSides natural_data
  pub ends : Terminates addition_rules
  pub no_pair : (pair : CriticalPair) → ¬ IsCriticalPair addition_rules pair
  pub confluent : AreConfluent addition_rules
  pub canon : (canon : Term → Term) × Chooses addition_rules canon × IsCanon natural_data canon
  -- 1 + 1 = 2, and not 1 + 1 = 1
  pub equal : Equal natural_data (plus (successor nought) (successor nought)) (successor (successor nought))
  pub not_equal : ¬ Equal natural_data (plus (successor nought) (successor nought)) (successor nought)
