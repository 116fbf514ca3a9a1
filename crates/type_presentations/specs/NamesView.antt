-- The names whose positions are kept.
use Rattle.std.specs.Prelude.{◌≡◌, ℕ, List}
use Rattle.sort_terms.specs.NameIndex.{numbers_under}
use Rattle.sort_terms.specs.Positions.{positions_of}
use Rattle.type_presentations.specs.declared.names.NamePositions.{NamePositions}

-- The names are these, in this order.
abbrev pub HasNames : NamePositions → List (List ℕ) → Type 0
HasNames positions names = (key : List ℕ) → numbers_under positions.index key ≡ positions_of key names
