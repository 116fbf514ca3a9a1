use Rattle.std.proofs.Common.{◌≡◌, map, take}
use Rattle.lotos_base.specs.WrittenView.{placed_name_of}
use Rattle.tree_building.proofs.names.copied_names.Given as goal

-- the names so far are copied
abbrev pub invariant-loop-name : goal.invariant-loop-name
invariant-loop-name l = map placed_name_of l.copies.items ≡ map placed_name_of (take l.name-index l.names)
