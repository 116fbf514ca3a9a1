use Rattle.std.proofs.Common.{true, map, take}
use Rattle.std.specs.List.{flat_map}
use Rattle.syntax_trees.specs.TreeViews.{group_of, written_variables_of}
use Rattle.sort_terms.specs.ReaderView.{signature_read}
use Rattle.type_definitions.specs.DeclaredEquations.{asked_of_group}
use Rattle.type_actualisation.specs.FormalLists.{AreFormalsOver, AreKeptFormals, over_signature}
use Rattle.type_actualisation.proofs.own_formals.keep_section.Given as goal

abbrev pub invariant-loop-group : goal.invariant-loop-group
invariant-loop-group l =
    AreKeptFormals (over_signature (signature_read l.reader))
    (flat_map (asked_of_group true (written_variables_of l.section.variables.items)) (map group_of (take l.group-index l.group-items)))
    l.fn.list l.list
    × AreFormalsOver (signature_read l.reader) l.list
