-- Terms read in numbers: where a reading meets the equations, equal terms mean the same number. This tells terms apart.
use Rattle.std.proofs.Common.{◌≡◌, ℕ, List}
use Rattle.lotos_base.specs.Term.{Term}
use Rattle.lotos_base.specs.Equation.{Data}
use Rattle.lotos_base.specs.Equality.{Equal}
use Rattle.lotos_base.specs.Meaning.{interpretation, MeetsEquations}
use Rattle.lotos_base.specs.MeaningFacts.{meaning_is_congruence}
use Rattle.lotos_base.proofs.EqualityLemmas.{equal_related}

-- equal terms mean the same number
pub equal_meaning : {data_ : Data} {t u : Term} (operate : ℕ → List ℕ → ℕ) → MeetsEquations data_ operate
    → Equal data_ t u → interpretation operate t ≡ interpretation operate u
equal_meaning {data_} operate meets chain =
    equal_related (λ t. Unit {0}) (λ t u. interpretation operate t ≡ interpretation operate u)
    (meaning_is_congruence data_ operate meets) tt chain
