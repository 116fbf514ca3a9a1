-- The entries of menus, and of parts that menus share.
use Rattle.std.specs.Prelude.{List}
use Rattle.event_offers.specs.EntryTrees.{entries_among}
use Rattle.event_offers.specs.declared.drafts.Entry.{Entry}
use Rattle.event_offers.specs.declared.menus.Menu.{Menu}
use Rattle.event_offers.specs.declared.menus.Menu.TheVariants.{Own, Shared}
use Rattle.event_offers.specs.declared.parts.MenuPart.{MenuPart}

-- the entries of a part, in order
abbrev pub part_entries : MenuPart → List Entry
part_entries part = entries_among part.entries.value

-- the entries of a menu, in order
abbrev pub menu_entries : Menu → List Entry
menu_entries (Own entries) = entries.items
menu_entries (Shared part) = part_entries part
