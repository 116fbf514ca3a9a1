use Rattle.std.proofs.Common.{◌≡◌, ◌<◌, ℕ, length, map, take}
use Rattle.lotos_base.specs.WrittenView.{listed_operation_of}
use Rattle.sort_terms.specs.SignatureView.{signature_of}
use Rattle.path_order.specs.Listing.{AreListedByItems, IsFineItem}
use Rattle.path_order.proofs.StatusLemmas.{AreStatusesSoFar}
use Rattle.path_order.proofs.listings.listing.Given as goal

abbrev pub invariant-loop-item : goal.invariant-loop-item
invariant-loop-item l = record {
  listed : AreListedByItems (signature_of l.signature) (map listed_operation_of (take l.item-index l.order)) l.made.order.items;
  fine : (k : ℕ) → k < l.item-index → IsFineItem (signature_of l.signature) (map listed_operation_of l.order) k;
  room : length l.made.listed.items ≡ length l.signature.ops.items;
  statuses : AreStatusesSoFar (signature_of l.signature) l.order l.made.statuses.items l.item-index;
}
