-- The entries of a menu of the code.
use Rattle.std.specs.Prelude.{List, map}
use Rattle.behaviour_semantics.specs.Solving as solving
use Rattle.draft_parts.specs.HandedOn.{plain_entry, Menu, menu_entries}

-- the entries
abbrev pub entries_in : Menu → List solving.Entry
entries_in menu = map plain_entry (menu_entries menu)
