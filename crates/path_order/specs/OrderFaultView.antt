-- What a fault of an order of operations says.
use Rattle.std.specs.Prelude.{List}
use Rattle.lotos_base.specs.Name.{spelling}
use Rattle.lotos_base.specs.WrittenTerm.{ListedOperation}
use Rattle.lotos_base.specs.WrittenView.{text_place_of}
use Rattle.lotos_base.specs.Signature.{Signature}
use Rattle.path_order.specs.Listing.{IsUnknown, IsTwice, IsBadAlone, IsFirstWrong, listed_name, listed_status}
use Rattle.path_order.specs.declared.order_fault.OrderFault.{OrderFault}
use Rattle.path_order.specs.declared.order_fault.OrderFault.TheVariants.{UnknownOperation, TwiceListed, BadStatus, NoMemory}

-- The item in which the place and the name stand that the fault tells is the first one with something wrong: its own
-- name, or that of its status. Want of memory says nothing.
abbrev pub IsOrderFault : Signature → List ListedOperation → OrderFault → Type 0
IsOrderFault signature items (UnknownOperation place name) =
    IsFirstWrong signature items (λ k item. IsUnknown signature item) listed_name (text_place_of place) (spelling name)
IsOrderFault signature items (TwiceListed place name) =
    IsFirstWrong signature items (λ k item. IsTwice signature items k item) listed_name (text_place_of place) (spelling name)
IsOrderFault signature items (BadStatus place name) =
    IsFirstWrong signature items (λ k item. IsBadAlone signature items k item) listed_status (text_place_of place) (spelling name)
IsOrderFault signature items NoMemory = Unit {0}
