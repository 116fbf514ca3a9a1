use Rattle.std.proofs.Common.{◌≡◌, map, take, drop}
use Rattle.type_definitions.specs.DeclaredTypes.{DeclaredType, mentions_in, type_numbers}
use Rattle.type_definitions.specs.GraphRows.{graph_rows_of}
use Rattle.type_definitions.specs.MentionFaults.{unknown_mention}
use Rattle.type_definitions.specs.TypeNamesView.{types_in}
use Rattle.type_definitions.specs.TypeView.{declared_types_of}
use Rattle.type_definitions.proofs.resolving.graph_of_names.Given as goal

abbrev pub invariant-loop-text : goal.invariant-loop-text
invariant-loop-text l =
    (unknown_mention (types_in l.names) (declared_types_of (drop l.text-index l.text-items))
    ≡ unknown_mention (types_in l.names) (types_in l.names))
    × (graph_rows_of l.rows.items
    ≡ map (λ (t : DeclaredType). type_numbers (types_in l.names) (mentions_in t.body)) (declared_types_of (take l.text-index l.text-items)))
