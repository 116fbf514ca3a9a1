-- Laws of orientation.
use Rattle.std.specs.Prelude.{◌≡◌, ◌⊎◌, ℕ, ◌+◌, List, ◌++◌, length, Some, slice_get}
use Rattle.lotos_base.specs.Equation.{Equation, Data, IsEquation}
use Rattle.lotos_base.specs.Equality.{Direction}
use Rattle.rewriting_theory.specs.Rule.{Rule, AreWellFormedRules, IsTurned, AreRulesOf}
use Rattle.rewriting_theory.specs.Precedence.{Precedence}
use Rattle.rewriting_theory.specs.Orientation.{AreOriented, NumberedRule, rules_of, GiveRules, IsOrientation, IsUnorientable, IsFirstUnorientable}

-- data have at most one list of rules
abbrev pub OrientationsAreUnique : Type 0
OrientationsAreUnique = (precedence : Precedence) (data_ : Data) (rules others : List NumberedRule)
    → IsOrientation precedence data_ rules → IsOrientation precedence data_ others → rules ≡ others

-- data have rules, or a first equation that cannot be oriented
abbrev pub DataAreOrientedOrNot : Type 0
DataAreOrientedOrNot = (precedence : Precedence) (data_ : Data)
    → ((rules : List NumberedRule) × IsOrientation precedence data_ rules)
    ⊎ ((number : ℕ) × IsFirstUnorientable precedence data_.equations number)

-- at most one equation is the first one that cannot be oriented
abbrev pub FirstUnorientableIsUnique : Type 0
FirstUnorientableIsUnique = (precedence : Precedence) (data_ : Data) (number other : ℕ)
    → IsFirstUnorientable precedence data_.equations number → IsFirstUnorientable precedence data_.equations other
    → number ≡ other

-- and never both: no equation of data that have rules cannot be oriented
abbrev pub OrientedDataAreOrientable : Type 0
OrientedDataAreOrientable = (precedence : Precedence) (data_ : Data) (rules : List NumberedRule) (equation : Equation)
    → IsOrientation precedence data_ rules → IsEquation data_ equation → ¬ IsUnorientable precedence equation

-- the rules of data are equations of the data, each turned so that its left side is greater
abbrev pub RulesOfDataAreOriented : Type 0
RulesOfDataAreOriented = (precedence : Precedence) (data_ : Data) (rules : List NumberedRule)
    → IsOrientation precedence data_ rules → AreRulesOf data_ (rules_of rules) × AreOriented precedence (rules_of rules)

-- the number of a rule is that of the equation that it comes from
abbrev pub RulesKnowTheirEquations : Type 0
RulesKnowTheirEquations = (precedence : Precedence) (data_ : Data) (rules : List NumberedRule) (k : ℕ)
    (numbered : NumberedRule) → IsOrientation precedence data_ rules → slice_get rules k ≡ Some numbered
    → (equation : Equation) × (direction : Direction)
    × (slice_get data_.equations numbered.equation ≡ Some equation) × IsTurned direction equation numbered.rule

-- oriented rules are well formed: the left side is no variable and has the variables of the right one
abbrev pub OrientedRulesAreWellFormed : Type 0
OrientedRulesAreWellFormed = (precedence : Precedence) (rules : List Rule) → AreOriented precedence rules
    → AreWellFormedRules rules

-- the rules of equations after others are the rules of these after the rules of the others
abbrev pub RulesJoin : Type 0
RulesJoin = (precedence : Precedence) (n : ℕ) (equations others : List Equation) (rules more : List NumberedRule)
    → GiveRules precedence n equations rules → GiveRules precedence (n + length equations) others more
    → GiveRules precedence n (equations ++ others) (rules ++ more)
