use Rattle.std.proofs.Common.{drop, map}
use Rattle.shared_entries.specs.Items.{plain_item}
use Rattle.menu_parts.specs.Spread.{NoneEnds}
use Rattle.menu_parts.proofs.spreads.any_ends.Given as goal

abbrev pub invariant-loop-item : goal.invariant-loop-item
invariant-loop-item l = NoneEnds (map plain_item (drop l.item-index l.item-items)) → NoneEnds (map plain_item l.item-items)
