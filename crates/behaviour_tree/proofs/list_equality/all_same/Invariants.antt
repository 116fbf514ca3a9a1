use Rattle.std.proofs.Common.{◌≡◌, map, take}
use Rattle.behaviour_tree.specs.Placings.{values_of}
use Rattle.behaviour_tree.proofs.list_equality.all_same.Given as goal

abbrev pub invariant-loop-i : goal.invariant-loop-i
invariant-loop-i g l =
    map (g.T.Placed.placed (values_of l.here)) (take l.i l.items.items)
    ≡ map (g.T.Placed.placed (values_of l.there)) (take l.i l.others.items)
