-- What one more item adds to a listing, or what is wrong with it.
use Rattle.std.specs.Prelude.{◌≡◌, ◌++◌, ℕ, List, [], ◌∷◌, Some, slice_get, length}
use Rattle.std.proofs.Common.{set}
use Rattle.lotos_base.specs.Name.{spelling}
use Rattle.lotos_base.specs.WrittenTerm.{ListedOperation}
use Rattle.lotos_base.specs.WrittenView.{text_place_of}
use Rattle.path_order.specs.Listing.{listed_status}
use Rattle.path_order.specs.PrecedenceView.{status_of}
use Rattle.path_order.specs.Statuses.{HasBadStatus, status_written}
use Rattle.path_order.specs.declared.listing.Listing.{Listing}
use Rattle.path_order.specs.declared.status.Status.{Status}
use Rattle.path_order.specs.declared.order_fault.OrderFault.{OrderFault}
use Rattle.path_order.specs.declared.order_fault.OrderFault.TheVariants.{UnknownOperation, TwiceListed, BadStatus, NoMemory}

-- A number stands in both lists.
abbrev pub HasCommon : List ℕ → List ℕ → Type 0
HasCommon one other =
    (f : ℕ) × ((i : ℕ) × (slice_get one i ≡ Some f)) × ((j : ℕ) × (slice_get other j ≡ Some f))

-- the statuses with this one for each of the numbers
abbrev pub given_status : List Status → List ℕ → Status → List Status
given_status statuses [] status = statuses
given_status statuses (f ∷ fs) status = given_status (set statuses f status) fs status

-- The new listing has the numbers behind those of the old one, of which there were some and none was there, and the
-- status that the item writes for each of them.
pub record IsNewOf (item : ListedOperation) (old new : Listing) (found : List ℕ) : Type 0 where
  pub added : new.order.items ≡ old.order.items ++ found
  pub room : length new.listed.items ≡ length old.listed.items
  pub status : Status
  pub written : status_written item.status ≡ Some (status_of status)
  pub given : new.statuses.items ≡ given_status old.statuses.items found status
  pub some : found ≡ [] → ⊥
  pub apart : ¬ HasCommon old.order.items found

-- The fault tells the place and name of the status of the item, which is none. Want of memory says nothing.
abbrev pub IsStatusFault : ListedOperation → OrderFault → Type 0
IsStatusFault item (UnknownOperation place name) = ⊥
IsStatusFault item (TwiceListed place name) = ⊥
IsStatusFault item (BadStatus place name) =
    (listed_status item ≡ Some (record { place = text_place_of place; name = spelling name })) × HasBadStatus item
IsStatusFault item NoMemory = Unit {0}

-- The fault tells the place and name of the item, of which nothing was found, or something that was there already; or
-- those of its status, where neither is so.
abbrev pub IsItemFault : ListedOperation → List ℕ → List ℕ → OrderFault → Type 0
IsItemFault item before found (UnknownOperation place name) =
    (text_place_of place ≡ item.place) × (spelling name ≡ item.name) × (found ≡ [])
IsItemFault item before found (TwiceListed place name) =
    (text_place_of place ≡ item.place) × (spelling name ≡ item.name) × HasCommon before found
IsItemFault item before found (BadStatus place name) =
    (listed_status item ≡ Some (record { place = text_place_of place; name = spelling name })) × HasBadStatus item
    × (found ≡ [] → ⊥) × (¬ HasCommon before found)
IsItemFault item before found NoMemory = Unit {0}
