-- Laws of chosen forms: each term has exactly one, where rewriting ends.
use Rattle.std.specs.Prelude.{◌≡◌, ◌↔◌, List}
use Rattle.lotos_base.specs.Term.{Term}
use Rattle.rewriting_theory.specs.Rule.{Rule, AreWellFormedRules}
use Rattle.rewriting_theory.specs.Reduction.{Reaches, Join}
use Rattle.rewriting_theory.specs.Rewriting.{Rewrites, IsNormal, Terminates, AreConfluent}
use Rattle.rewriting_theory.specs.ChosenForm.{Chosen}

-- where rewriting ends, each term has a chosen form
abbrev pub ChosenFormsExist : Type 0
ChosenFormsExist = (rules : List Rule) (t : Term) → Terminates rules → (u : Term) × Chosen rules t u

-- a term has at most one chosen form
abbrev pub ChosenFormsAreUnique : Type 0
ChosenFormsAreUnique = (rules : List Rule) (t u v : Term) → AreWellFormedRules rules → Chosen rules t u
    → Chosen rules t v → u ≡ v

-- the term rewrites to its chosen form
abbrev pub ChosenFormsAreReached : Type 0
ChosenFormsAreReached = (rules : List Rule) (t u : Term) → Chosen rules t u → Reaches (Rewrites rules) t u

-- the chosen form is irreducible
abbrev pub ChosenFormsAreNormal : Type 0
ChosenFormsAreNormal = (rules : List Rule) (t u : Term) → AreWellFormedRules rules → Chosen rules t u → IsNormal rules u

-- a term is irreducible exactly where it is its own chosen form
abbrev pub NormalTermsAreTheirForms : Type 0
NormalTermsAreTheirForms = (rules : List Rule) (t : Term) → AreWellFormedRules rules → Terminates rules
    → IsNormal rules t ↔ Chosen rules t t

-- where the rules are confluent, the chosen form is the one irreducible term that the term rewrites to
abbrev pub ChosenFormsAreTheOnlyNormalOnes : Type 0
ChosenFormsAreTheOnlyNormalOnes = (rules : List Rule) (t u v : Term) → AreWellFormedRules rules → AreConfluent rules
    → Chosen rules t u → Reaches (Rewrites rules) t v → IsNormal rules v → v ≡ u

-- and terms that can be joined have one chosen form
abbrev pub JoinedTermsHaveOneForm : Type 0
JoinedTermsHaveOneForm = (rules : List Rule) (t u v w : Term) → AreWellFormedRules rules → AreConfluent rules
    → Join (Rewrites rules) t u → Chosen rules t v → Chosen rules u w → v ≡ w
