use Rattle.std.proofs.Common.{◌≡◌, ◌++◌, map, length}
use Rattle.std.specs.Vec.Iter.{into_iter_items, into_iter_len}
use Rattle.event_offers.specs.OfferView.{plain_entry}
use Rattle.shared_entries.specs.Items.{entry_terms, item_terms, plain_item}
use Rattle.shared_entries.proofs.items.items_of.Given as goal

abbrev pub invariant-loop-entry : goal.invariant-loop-entry
invariant-loop-entry l =
    (map plain_item l.made.items ++ map plain_entry (into_iter_items l.entry-iterator)
    ≡ map plain_entry (into_iter_items l.initial.entry-iterator))
    × (map item_terms l.made.items ++ map entry_terms (into_iter_items l.entry-iterator)
    ≡ map entry_terms (into_iter_items l.initial.entry-iterator))
    × (into_iter_len l.entry-iterator ≡ length (into_iter_items l.entry-iterator))
