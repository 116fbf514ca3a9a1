-- Which operations an item of an order lists.
use Rattle.std.specs.Prelude.{◌≡◌, ◌<◌, ℕ, List, [], ◌∷◌, Option, None, Some, slice_get}
use Rattle.lotos_base.specs.WrittenTerm.{WrittenProfile, ListedOperation}
use Rattle.lotos_base.specs.Names.{AreOneName}
use Rattle.lotos_base.specs.Signature.{Signature, Operation, IsOperation}
use Rattle.sort_terms.specs.Reading.{IsSortNamed}

-- The sorts have these names, one by one.
abbrev pub AreSortsNamed : Signature → List ℕ → List (List ℕ) → Type 0
AreSortsNamed signature [] [] = Unit {0}
AreSortsNamed signature [] (name ∷ names) = ⊥
AreSortsNamed signature (s ∷ ss) [] = ⊥
AreSortsNamed signature (s ∷ ss) (name ∷ names) = IsSortNamed signature s name × AreSortsNamed signature ss names

-- The operation has the profile, where one is given.
abbrev pub HasProfile : Signature → Operation → Option WrittenProfile → Type 0
HasProfile signature operation None = Unit {0}
HasProfile signature operation (Some profile) =
    AreSortsNamed signature operation.arguments profile.arguments × IsSortNamed signature operation.result profile.result

-- The operation has the form of the item, and its profile, where one is given.
abbrev pub SuitsItem : Signature → Operation → ListedOperation → Type 0
SuitsItem signature operation item = (operation.form ≡ item.form) × HasProfile signature operation item.profile

-- The item lists the operation with this number: it has the name and form of the item, and its profile, where one is
-- given.
pub record IsListedBy (signature : Signature) (item : ListedOperation) (f : ℕ) : Type 0 where
  pub operation : Operation
  pub is_there : IsOperation signature f operation
  pub named : AreOneName operation.name item.name
  pub suits : SuitsItem signature operation item

-- The list has the numbers of the operations that the item lists, the latest declared first.
pub record AreListedBy (signature : Signature) (item : ListedOperation) (fs : List ℕ) : Type 0 where
  pub listed : (j f : ℕ) → slice_get fs j ≡ Some f → IsListedBy signature item f
  pub all : (f : ℕ) → IsListedBy signature item f → (j : ℕ) × (slice_get fs j ≡ Some f)
  pub latest_first : (i j f g : ℕ) → slice_get fs i ≡ Some f → slice_get fs j ≡ Some g → i < j → g < f
