use Rattle.std.proofs.Common.{◌≡◌, ◌++◌, map, drop}
use Rattle.syntax_trees.specs.TreeViews.{item_of}
use Rattle.type_definitions.specs.DeclaredTypes.{types_of}
use Rattle.type_definitions.specs.TypeView.{declared_types_of}
use Rattle.type_definitions.proofs.type_texts.type_texts.Given as goal

abbrev pub invariant-loop-item : goal.invariant-loop-item
invariant-loop-item l =
    declared_types_of l.types.items ++ types_of (map item_of (drop l.item-index l.items)) ≡ types_of (map item_of l.items)
