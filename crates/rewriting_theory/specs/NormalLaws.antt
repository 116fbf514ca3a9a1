-- Laws of rewriting by the rules of data: sorts, variables, renamings, and equality. Normal forms are canons.
use Rattle.std.specs.Prelude.{◌≡◌, ◌↔◌, ◌⊎◌, ℕ, List, Some}
use Rattle.lotos_base.specs.Term.{Term}
use Rattle.lotos_base.specs.Sorting.{HasSort, IsGroundOf, Occurs}
use Rattle.lotos_base.specs.Path.{put_at}
use Rattle.lotos_base.specs.Substitution.{Substitution, substituted, renaming}
use Rattle.lotos_base.specs.Equation.{Data}
use Rattle.lotos_base.specs.Equality.{Link, Equal}
use Rattle.lotos_base.specs.Canon.{KeepsApart, IsCanon}
use Rattle.rewriting_theory.specs.Rule.{Rule, AreWellFormedRules, AreRulesOf, AreSortedRulesOf}
use Rattle.rewriting_theory.specs.Rewriting.{Rewrites, AreConfluent}
use Rattle.rewriting_theory.specs.ChosenForm.{Chosen, Chooses}
use Rattle.rewriting_theory.specs.NormalForm.{Normalises}

-- what holds of two terms holds of each instance of both
abbrev pub RewritingIsClosedUnderSubstitution : Type 0
RewritingIsClosedUnderSubstitution = (rules : List Rule) (values : Substitution) (t u : Term) → Rewrites rules t u
    → Rewrites rules (substituted values t) (substituted values u)

-- and of both inside any term
abbrev pub RewritingIsClosedUnderContexts : Type 0
RewritingIsClosedUnderContexts = (rules : List Rule) (path : List ℕ) (t u whole before after : Term)
    → Rewrites rules t u → put_at path t whole ≡ Some before → put_at path u whole ≡ Some after
    → Rewrites rules before after

-- a renamed term rewrites to the renamed terms that the term rewrites to, and to no other
abbrev pub RewritingPassesThroughRenamings : Type 0
RewritingPassesThroughRenamings = (rules : List Rule) (number : ℕ → ℕ → ℕ) (t v : Term) → AreWellFormedRules rules
    → KeepsApart number t → Rewrites rules (substituted (renaming number) t) v
    ↔ ((u : Term) × Rewrites rules t u × (substituted (renaming number) u ≡ v))

-- the chosen form of a renamed term is the renamed chosen form
abbrev pub ChosenFormsPassThroughRenamings : Type 0
ChosenFormsPassThroughRenamings = (rules : List Rule) (number : ℕ → ℕ → ℕ) (t u : Term) → AreWellFormedRules rules
    → KeepsApart number t → Chosen rules t u
    → Chosen rules (substituted (renaming number) t) (substituted (renaming number) u)

-- rewriting keeps the sort of a term
abbrev pub RewritingKeepsSorts : Type 0
RewritingKeepsSorts = (data_ : Data) (rules : List Rule) (t u : Term) (s : ℕ) → AreSortedRulesOf data_ rules
    → Rewrites rules t u → HasSort data_.signature t s → HasSort data_.signature u s

-- and brings in no variable
abbrev pub RewritingBringsInNoVariable : Type 0
RewritingBringsInNoVariable = (rules : List Rule) (t u : Term) (n s : ℕ) → AreWellFormedRules rules
    → Rewrites rules t u → Occurs n s u → Occurs n s t

-- so a chosen form has the sort of its term
abbrev pub ChosenFormsKeepSorts : Type 0
ChosenFormsKeepSorts = (data_ : Data) (rules : List Rule) (t u : Term) (s : ℕ) → AreSortedRulesOf data_ rules
    → Chosen rules t u → HasSort data_.signature t s → HasSort data_.signature u s

-- and no other variables
abbrev pub ChosenFormsBringInNoVariable : Type 0
ChosenFormsBringInNoVariable = (rules : List Rule) (t u : Term) (n s : ℕ) → AreWellFormedRules rules → Chosen rules t u
    → Occurs n s u → Occurs n s t

-- a link of rewriting of a ground term is a link of equality
abbrev pub RewritingIsEquality : Type 0
RewritingIsEquality = (data_ : Data) (rules : List Rule) (t u : Term) (s : ℕ) → AreSortedRulesOf data_ rules
    → Rewrites rules t u → IsGroundOf data_.signature s t → Link data_ t u

-- a link of equality is a link of rewriting in one of the two directions, or changes nothing
abbrev pub EqualityIsRewriting : Type 0
EqualityIsRewriting = (data_ : Data) (rules : List Rule) (t u : Term) → AreRulesOf data_ rules → Link data_ t u
    → (t ≡ u) ⊎ (Rewrites rules t u ⊎ Rewrites rules u t)

-- where rewriting is confluent, a function that gives normal forms is a canon of the data
abbrev pub NormalFormsAreCanons : Type 0
NormalFormsAreCanons = (data_ : Data) (rules : List Rule) (canon : Term → Term) → AreSortedRulesOf data_ rules
    → AreConfluent rules → Normalises rules canon → IsCanon data_ canon

-- so ground terms of one sort are equal exactly where their normal forms are identical
abbrev pub NormalFormsDecideEquality : Type 0
NormalFormsDecideEquality = (data_ : Data) (rules : List Rule) (canon : Term → Term) (t u : Term) (s : ℕ)
    → AreSortedRulesOf data_ rules → AreConfluent rules → Normalises rules canon
    → IsGroundOf data_.signature s t → IsGroundOf data_.signature s u → Equal data_ t u ↔ (canon t ≡ canon u)

-- a function that gives chosen forms gives normal forms
abbrev pub ChosenFormsAreNormalForms : Type 0
ChosenFormsAreNormalForms = (rules : List Rule) (canon : Term → Term) → AreWellFormedRules rules → Chooses rules canon
    → Normalises rules canon
