-- Laws of matching and unification: both are decided, and terms with a common instance have a most general unifier.
use Rattle.std.specs.Prelude.{◌≡◌, ◌↔◌, ◌⊎◌, ℕ, List}
use Rattle.lotos_base.specs.Term.{Term}
use Rattle.lotos_base.specs.Sorting.{Occurs}
use Rattle.lotos_base.specs.Substitution.{Substitution, substituted, renaming}
use Rattle.lotos_base.specs.Canon.{KeepsApart}
use Rattle.rewriting_theory.specs.Rule.{Rule, AreWellFormedRules}
use Rattle.rewriting_theory.specs.Matching.{Matches, NoMatch, FirstStep}
use Rattle.rewriting_theory.specs.Unification.{IsUnifier, IsMostGeneral, HasCommonInstance, OccursInEither, AreApart, KeepsTo}

-- a pattern matches a term or does not
abbrev pub MatchingIsDecided : Type 0
MatchingIsDecided = (pattern t : Term) → Matches pattern t ⊎ (¬ Matches pattern t)

-- two substitutions by which a pattern matches a term agree on the variables of the pattern
abbrev pub MatchesAgree : Type 0
MatchesAgree = (pattern t : Term) (values others : Substitution) (n s : ℕ) → substituted values pattern ≡ t
    → substituted others pattern ≡ t → Occurs n s pattern → values n s ≡ others n s

-- either the first rule that matches makes some term of the term, or no rule matches
abbrev pub FirstStepOrNoMatch : Type 0
FirstStepOrNoMatch = (rules : List Rule) (t : Term) → ((u : Term) × FirstStep rules t u) ⊎ NoMatch rules t

-- it makes only one term
abbrev pub FirstStepsAreUnique : Type 0
FirstStepsAreUnique = (rules : List Rule) (t u v : Term) → AreWellFormedRules rules → FirstStep rules t u
    → FirstStep rules t v → u ≡ v

-- terms with a unifier have a most general one, of which every unifier is an instance at all variables
abbrev pub MostGeneralUnifiersExist : Type 0
MostGeneralUnifiersExist = (s t : Term) (others : Substitution) → IsUnifier s t others
    → (values : Substitution) × IsMostGeneral (λ n r. Unit {0}) s t values

-- two terms have a common instance exactly where the first one and the second one, renamed apart, have a unifier
abbrev pub CommonInstancesAreUnifiers : Type 0
CommonInstancesAreUnifiers = (number : ℕ → ℕ → ℕ) (s t : Term) → KeepsApart number t
    → AreApart s (substituted (renaming number) t)
    → HasCommonInstance s t ↔ ((values : Substitution) × IsUnifier s (substituted (renaming number) t) values)

-- a unifier that is most general at the variables of its two terms, and keeps to them, is so at those of two other terms
-- too, where each variable of these occurs in one of the two terms or has a number that none of their variables has
abbrev pub GeneralUnifiersStayGeneral : Type 0
GeneralUnifiersStayGeneral = (s t u v : Term) (values : Substitution) → IsMostGeneral (OccursInEither s t) s t values
    → KeepsTo s t values
    → ((n r : ℕ) → OccursInEither u v n r → OccursInEither s t n r ⊎ ((q : ℕ) → ¬ OccursInEither s t n q))
    → IsMostGeneral (OccursInEither u v) s t values

-- two terms have a most general unifier, of which every unifier is an instance at all variables, or they have none
abbrev pub UnificationIsDecided : Type 0
UnificationIsDecided = (s t : Term)
    → ((values : Substitution) × IsMostGeneral (λ n r. Unit {0}) s t values)
    ⊎ ((values : Substitution) → ¬ IsUnifier s t values)
