use Rattle.std.proofs.Common.{◌≡◌, ◌++◌, take, drop}
use Rattle.syntax_trees.specs.TreeViews.{placed_names_of}
use Rattle.type_definitions.specs.DeclaredTypes.{type_numbers}
use Rattle.type_definitions.specs.MentionFaults.{unknown_among}
use Rattle.type_definitions.specs.TypeNamesView.{types_in}
use Rattle.type_definitions.proofs.resolving.numbers_behind.Given as goal

abbrev pub invariant-loop-mention : goal.invariant-loop-mention
invariant-loop-mention l =
    (unknown_among (types_in l.names) (placed_names_of (drop l.mention-index l.mentioned))
    ≡ unknown_among (types_in l.names) (placed_names_of l.mentioned))
    × (l.row.items ≡ l.fn.row.items ++ type_numbers (types_in l.names) (placed_names_of (take l.mention-index l.mentioned)))
