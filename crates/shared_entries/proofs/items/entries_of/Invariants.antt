use Rattle.std.proofs.Common.{◌≡◌, ◌++◌, map, drop}
use Rattle.event_offers.specs.OfferView.{plain_entry}
use Rattle.shared_entries.specs.Items.{entry_terms, item_terms, plain_item}
use Rattle.shared_entries.proofs.items.entries_of.Given as goal

abbrev pub invariant-loop-item : goal.invariant-loop-item
invariant-loop-item l =
    (map plain_entry l.made.items ++ map plain_item (drop l.item-index l.item-items) ≡ map plain_item l.item-items)
    × (map entry_terms l.made.items ++ map item_terms (drop l.item-index l.item-items) ≡ map item_terms l.item-items)
