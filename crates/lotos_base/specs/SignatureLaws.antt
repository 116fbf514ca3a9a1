-- Laws of signatures: the tests for twins decide, and twins of a well-formed signature differ in their results alone.
use Rattle.std.specs.Prelude.{◌≡◌, ◌↔◌, ℕ, IsTrue}
use Rattle.lotos_base.specs.Signature.{Operation, Signature, IsOperation, IsWellFormedSignature}
use Rattle.lotos_base.specs.Names.{AreOneName}
use Rattle.lotos_base.specs.Twins.{AreTwins, HasTwin, are_twins, has_twin}

-- the test of two operations is true exactly where they are twins
abbrev pub TwinsAreDecided : Type 0
TwinsAreDecided = (one other : Operation) → IsTrue (are_twins one other) ↔ AreTwins one other

-- the test for a twin is true exactly where the signature has one
abbrev pub HavingATwinIsDecided : Type 0
HavingATwinIsDecided = (signature : Signature) (operation : Operation)
    → IsTrue (has_twin signature operation) ↔ HasTwin signature operation

-- twins are twins of one another
abbrev pub TwinsAreMutual : Type 0
TwinsAreMutual = (one other : Operation) → AreTwins one other → AreTwins other one

-- in a well-formed signature, an operation without a twin is known by its name, its form and its argument sorts
abbrev pub ProfilesTellOperations : Type 0
ProfilesTellOperations = (signature : Signature) (f g : ℕ) (one other : Operation) → IsWellFormedSignature signature
    → IsOperation signature f one → IsOperation signature g other
    → ¬ HasTwin signature one → AreOneName one.name other.name → one.form ≡ other.form
    → one.arguments ≡ other.arguments → f ≡ g
