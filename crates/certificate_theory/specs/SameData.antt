-- When two data are the same up to places, origins, spellings and names of variables: their sorts, operations and equations agree
-- one by one.
use Rattle.std.specs.Prelude.{◌≡◌, List, [], ◌∷◌}
use Rattle.lotos_base.specs.Names.{AreOneName}
use Rattle.lotos_base.specs.Signature.{Sort, Operation}
use Rattle.lotos_base.specs.Equation.{Equation, Data}

-- The sorts have one name each, one by one.
abbrev pub AreSameSorts : List Sort → List Sort → Type 0
AreSameSorts [] [] = Unit {0}
AreSameSorts (s ∷ sorts) (r ∷ others) = AreOneName s.name r.name × AreSameSorts sorts others
AreSameSorts _ _ = ⊥

-- Two operations of one name, form and profile.
pub record AreOneOperation (one other : Operation) : Type 0 where
  pub name : AreOneName one.name other.name
  pub form : one.form ≡ other.form
  pub arguments : one.arguments ≡ other.arguments
  pub result : one.result ≡ other.result

abbrev pub AreSameOperations : List Operation → List Operation → Type 0
AreSameOperations [] [] = Unit {0}
AreSameOperations (o ∷ operations) (p ∷ others) = AreOneOperation o p × AreSameOperations operations others
AreSameOperations _ _ = ⊥

-- Two equations with the same sides. The variables of an equation are known by their numbers.
pub record AreOneEquation (one other : Equation) : Type 0 where
  pub left : one.left ≡ other.left
  pub right : one.right ≡ other.right

abbrev pub AreSameEquations : List Equation → List Equation → Type 0
AreSameEquations [] [] = Unit {0}
AreSameEquations (e ∷ equations) (f ∷ others) = AreOneEquation e f × AreSameEquations equations others
AreSameEquations _ _ = ⊥

pub record AreSameData (data_ other : Data) : Type 0 where
  pub sorts : AreSameSorts data_.signature.sorts other.signature.sorts
  pub operations : AreSameOperations data_.signature.operations other.signature.operations
  pub equations : AreSameEquations data_.equations other.equations
