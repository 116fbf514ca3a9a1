-- Laws of the chosen forms of oriented data: each term has exactly one, and where the rules are confluent it is the
-- canon of the data. Of the data nothing more is asked than that the two sides of each equation have one sort.
use Rattle.std.specs.Prelude.{◌≡◌, ◌↔◌, ℕ, List}
use Rattle.lotos_base.specs.Term.{Term}
use Rattle.lotos_base.specs.Sorting.{IsGroundOf}
use Rattle.lotos_base.specs.Equation.{Data, HasSortedSides}
use Rattle.lotos_base.specs.Equality.{Equal}
use Rattle.lotos_base.specs.Canon.{IsCanon}
use Rattle.rewriting_theory.specs.Rule.{Rule, AreSortedRulesOf}
use Rattle.rewriting_theory.specs.Rewriting.{AreConfluent}
use Rattle.rewriting_theory.specs.ChosenForm.{Chosen, Chooses}
use Rattle.rewriting_theory.specs.ConfluenceLaws.{PairsAgree}
use Rattle.rewriting_theory.specs.Precedence.{Precedence}
use Rattle.rewriting_theory.specs.Orientation.{AreOriented, NumberedRule, rules_of, IsOrientation}

-- every term has exactly one chosen form
abbrev pub EveryTermHasOneChosenForm : Type 0
EveryTermHasOneChosenForm = (precedence : Precedence) (rules : List Rule) (t : Term) → AreOriented precedence rules
    → (u : Term) × Chosen rules t u × ((v : Term) → Chosen rules t v → v ≡ u)

-- the rules are confluent exactly where the two sides of each critical pair have one chosen form
abbrev pub PairsTellConfluence : Type 0
PairsTellConfluence = (precedence : Precedence) (rules : List Rule) → AreOriented precedence rules
    → AreConfluent rules ↔ PairsAgree rules

-- the rules of data whose equations have sides of one sort are well formed and sorted
abbrev pub RulesOfDataAreSorted : Type 0
RulesOfDataAreSorted = (precedence : Precedence) (data_ : Data) (rules : List NumberedRule) → HasSortedSides data_
    → IsOrientation precedence data_ rules → AreSortedRulesOf data_ (rules_of rules)

-- where they are confluent, the chosen form is a canon of the data
abbrev pub ChosenFormsAreCanons : Type 0
ChosenFormsAreCanons = (precedence : Precedence) (data_ : Data) (rules : List NumberedRule) (canon : Term → Term)
    → HasSortedSides data_ → IsOrientation precedence data_ rules → AreConfluent (rules_of rules)
    → Chooses (rules_of rules) canon → IsCanon data_ canon

-- so such data have a canon
abbrev pub ConfluentDataHaveACanon : Type 0
ConfluentDataHaveACanon = (precedence : Precedence) (data_ : Data) (rules : List NumberedRule) → HasSortedSides data_
    → IsOrientation precedence data_ rules → AreConfluent (rules_of rules)
    → (canon : Term → Term) × Chooses (rules_of rules) canon × IsCanon data_ canon

-- and ground terms of one sort are equal exactly where their chosen forms are identical
abbrev pub ChosenFormsDecideEquality : Type 0
ChosenFormsDecideEquality = (precedence : Precedence) (data_ : Data) (rules : List NumberedRule) (t u c d : Term) (s : ℕ)
    → HasSortedSides data_ → IsOrientation precedence data_ rules → AreConfluent (rules_of rules)
    → IsGroundOf data_.signature s t → IsGroundOf data_.signature s u
    → Chosen (rules_of rules) t c → Chosen (rules_of rules) u d → Equal data_ t u ↔ (c ≡ d)
