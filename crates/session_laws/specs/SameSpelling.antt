-- When two data are the same with one spelling: their sorts, operations and equations agree one by one, up to places, origins and
-- what equations declare. So all that is printed of them agrees too.
use Rattle.std.specs.Prelude.{◌≡◌, List, [], ◌∷◌}
use Rattle.lotos_base.specs.Signature.{Sort, Operation, Signature}
use Rattle.lotos_base.specs.Equation.{Data}
use Rattle.declaration_laws.specs.HandedOn.{AreSameEquations}

-- The sorts are spelled alike, one by one.
abbrev pub AreSortsSpelledAlike : List Sort → List Sort → Type 0
AreSortsSpelledAlike [] [] = Unit {0}
AreSortsSpelledAlike (s ∷ sorts) (r ∷ others) = (s.name ≡ r.name) × AreSortsSpelledAlike sorts others
AreSortsSpelledAlike _ _ = ⊥

-- Two operations of one spelling, form and profile.
pub record IsSpelledAs (one other : Operation) : Type 0 where
  pub name : one.name ≡ other.name
  pub form : one.form ≡ other.form
  pub arguments : one.arguments ≡ other.arguments
  pub result : one.result ≡ other.result

abbrev pub AreOperationsSpelledAlike : List Operation → List Operation → Type 0
AreOperationsSpelledAlike [] [] = Unit {0}
AreOperationsSpelledAlike (o ∷ operations) (p ∷ others) = IsSpelledAs o p × AreOperationsSpelledAlike operations others
AreOperationsSpelledAlike _ _ = ⊥

pub record AreSignaturesSpelledAlike (signature other : Signature) : Type 0 where
  pub sorts : AreSortsSpelledAlike signature.sorts other.sorts
  pub operations : AreOperationsSpelledAlike signature.operations other.operations

pub record AreDataSpelledAlike (data_ other : Data) : Type 0 where
  pub signatures : AreSignaturesSpelledAlike data_.signature other.signature
  pub equations : AreSameEquations data_.equations other.equations
