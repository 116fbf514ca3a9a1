-- The order of operations that items give, and what is wrong with items.
use Rattle.std.specs.Prelude.{◌≡◌, ◌⊎◌, ◌↔◌, ◌<◌, ℕ, List, [], ◌∷◌, ◌++◌, Option, Some, slice_get, slice_index, length}
use Rattle.lotos_base.specs.WrittenTerm.{PlacedName, ListedOperation}
use Rattle.lotos_base.specs.Equation.{Place}
use Rattle.lotos_base.specs.Signature.{Signature}
use Rattle.path_order.specs.Listed.{IsListedBy, AreListedBy}
use Rattle.path_order.specs.Statuses.{HasBadStatus}

-- The numbers are those that the items list, item by item.
pub data AreListedByItems (signature : Signature) : List ListedOperation → List ℕ → Type 0 where
  none_listed : AreListedByItems signature [] []
  listed_then : {item : ListedOperation} {items : List ListedOperation} {fs rest : List ℕ}
      → AreListedBy signature item fs → AreListedByItems signature items rest → AreListedByItems signature (item ∷ items) (fs ++ rest)

-- The number stands in the list.
abbrev pub IsNumberIn : List ℕ → ℕ → Type 0
IsNumberIn numbers f = (j : ℕ) × (slice_get numbers j ≡ Some f)

-- The first number stands in the list before the second one.
pub record ComesEarlier (numbers : List ℕ) (f g : ℕ) : Type 0 where
  pub first : ℕ
  pub second : ℕ
  pub is_first : slice_get numbers first ≡ Some f
  pub is_second : slice_get numbers second ≡ Some g
  pub before : first < second

-- The first operation is above the second one: it is listed before it; it is listed and the second one is not; or
-- neither is, and it is declared later.
abbrev pub IsAbove : List ℕ → ℕ → ℕ → Type 0
IsAbove listing f g =
    ComesEarlier listing f g ⊎ ((IsNumberIn listing f × (¬ IsNumberIn listing g)) ⊎
    ((¬ IsNumberIn listing f) × (¬ IsNumberIn listing g) × (g < f)))

-- The item lists no operation.
abbrev pub IsUnknown : Signature → ListedOperation → Type 0
IsUnknown signature item = (f : ℕ) → ¬ IsListedBy signature item f

-- The item with this number lists an operation that an earlier item lists.
pub record IsTwice (signature : Signature) (items : List ListedOperation) (number : ℕ) (item : ListedOperation) : Type 0 where
  pub operation : ℕ
  pub is_listed : IsListedBy signature item operation
  pub earlier : ℕ
  pub other : ListedOperation
  pub before : earlier < number
  pub is_other : slice_get items earlier ≡ Some other
  pub was_listed : IsListedBy signature other operation

-- Nothing is wrong with the item with this number.
abbrev pub IsFineItem : Signature → List ListedOperation → ℕ → Type 0
IsFineItem signature items number = (item : ListedOperation) → slice_get items number ≡ Some item
    → (¬ IsUnknown signature item) × (¬ IsTwice signature items number item) × (¬ HasBadStatus item)

-- Nothing is wrong with the item with this number but its status.
abbrev pub IsBadAlone : Signature → List ListedOperation → ℕ → ListedOperation → Type 0
IsBadAlone signature items number item =
    (¬ IsUnknown signature item) × (¬ IsTwice signature items number item) × HasBadStatus item

-- the name of the item, with its place
abbrev pub listed_name : ListedOperation → Option PlacedName
listed_name item = Some (record { place = item.place; name = item.name })

-- the name of its status, with its place
abbrev pub listed_status : ListedOperation → Option PlacedName
listed_status item = item.status

-- An item is the first one with something wrong, and it is this; `told_in` gives the place and the name in it that are
-- told.
pub record IsFirstWrong (signature : Signature) (items : List ListedOperation) (IsWrong : ℕ → ListedOperation → Type 0)
    (told_in : ListedOperation → Option PlacedName) (place : Place) (name : List ℕ) : Type 0 where
  pub number : ℕ
  pub item : ListedOperation
  pub is_at : slice_get items number ≡ Some item
  pub wrong : IsWrong number item
  pub told : told_in item ≡ Some (record { place = place; name = name })
  pub fine_before : (k : ℕ) → k < number → IsFineItem signature items k

-- The ranks order the operations of the signature as the items say, and nothing is wrong with an item.
pub record AreRanksBy (signature : Signature) (items : List ListedOperation) (ranks : List ℕ) : Type 0 where
  pub listing : List ℕ
  pub listed : AreListedByItems signature items listing
  pub fine : (k : ℕ) → IsFineItem signature items k
  pub above : (f g : ℕ) → f < length signature.operations → g < length signature.operations
      → (slice_index ranks g < slice_index ranks f) ↔ IsAbove listing f g
