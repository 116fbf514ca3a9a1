-- The precedence that the items of an order give.
use Rattle.std.specs.Prelude.{◌↔◌, ◌<◌, ℕ, List, length}
use Rattle.lotos_base.specs.WrittenTerm.{ListedOperation}
use Rattle.lotos_base.specs.Signature.{Signature}
use Rattle.rewriting_theory.specs.Precedence.{Precedence, IsOver}
use Rattle.path_order.specs.Listing.{AreListedByItems, IsAbove, IsFineItem}
use Rattle.path_order.specs.Statuses.{AreStatusesBy}

-- Nothing is wrong with an item; an operation of the signature is over another one exactly where it is above it in the
-- order that the items list; and it has the status of the item that lists it, from the left where none does.
pub record IsPrecedenceBy (signature : Signature) (items : List ListedOperation) (precedence : Precedence) : Type 0 where
  pub listing : List ℕ
  pub listed : AreListedByItems signature items listing
  pub fine : (k : ℕ) → IsFineItem signature items k
  pub over : (f g : ℕ) → f < length signature.operations → g < length signature.operations
      → IsOver precedence f g ↔ IsAbove listing f g
  pub statuses : AreStatusesBy signature items precedence.status
