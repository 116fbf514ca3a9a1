-- The entries of a tree in order, and whether it tells their numbers rightly.
use Rattle.std.specs.Prelude.{List, ◌++◌, length, Bool, true, ◌&&◌, nat_eq}
use Rattle.event_offers.specs.declared.drafts.Entry.{Entry}
use Rattle.event_offers.specs.declared.entry_trees.EntryTree.{EntryTree, Leaf, Joined'}

-- the entries in order
abbrev pub entries_among : EntryTree → List Entry
entries_among (Leaf entries) = entries.items
entries_among (Joined' count _ first _ second) = entries_among first ++ entries_among second

-- whether each count is the number of the entries that are joined
abbrev pub are_counted : EntryTree → Bool
are_counted (Leaf entries) = true
are_counted (Joined' count _ first _ second) =
    nat_eq count (length (entries_among first ++ entries_among second)) && (are_counted first && are_counted second)
