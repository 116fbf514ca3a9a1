-- The statuses that the items of an order give operations.
use Rattle.std.specs.Prelude.{◌≡◌, ◌↔◌, ℕ, List, Option, None, Some, codes, slice_get, if◌then◌else◌}
use Rattle.std.specs.Str.{bytes_eq}
use Rattle.lotos_base.specs.WrittenTerm.{PlacedName, ListedOperation}
use Rattle.lotos_base.specs.Names.{folded}
use Rattle.lotos_base.specs.Signature.{Signature}
use Rattle.rewriting_theory.specs.Precedence.{Status, from_left, from_right}
use Rattle.path_order.specs.Listed.{IsListedBy}

-- the status with this name, in any letter case
abbrev pub status_named : List ℕ → Option Status
status_named name =
    if bytes_eq (folded name) (folded (codes "left")) then Some from_left
    else if bytes_eq (folded name) (folded (codes "right")) then Some from_right
    else None

-- the status that an item writes: from the left where it writes none, and no status where its name is that of none
abbrev pub status_written : Option PlacedName → Option Status
status_written None = Some from_left
status_written (Some status) = status_named status.name

-- The item writes another name than `left` or `right` as its status.
abbrev pub HasBadStatus : ListedOperation → Type 0
HasBadStatus item = status_written item.status ≡ None

-- An item that lists the operation with this number has the status `right`.
pub record IsFromRight (signature : Signature) (items : List ListedOperation) (f : ℕ) : Type 0 where
  pub number : ℕ
  pub item : ListedOperation
  pub is_at : slice_get items number ≡ Some item
  pub lists : IsListedBy signature item f
  pub right : status_written item.status ≡ Some from_right

-- Those operations are compared from the right that an item with the status `right` lists, and all others from the left.
abbrev pub AreStatusesBy : Signature → List ListedOperation → (ℕ → Status) → Type 0
AreStatusesBy signature items status = (f : ℕ) → (status f ≡ from_right) ↔ IsFromRight signature items f
