use Rattle.std.proofs.Common.{true, List, map, take}
use Rattle.syntax_trees.specs.TreeViews.{written_equation_of, group_of}
use Rattle.syntax_trees.specs.WrittenVariable.{WrittenVariable}
use Rattle.sort_terms.specs.ReaderView.{signature_read}
use Rattle.type_equations.specs.SectionScope.{IsSectionFor, question_in}
use Rattle.type_actualisation.specs.FormalLists.{AreFormalsOver, AreKeptFormals, over_signature}
use Rattle.type_actualisation.proofs.own_formals.keep_group.Given as goal

abbrev pub invariant-loop-equation : goal.invariant-loop-equation
invariant-loop-equation l =
    ((written : List WrittenVariable)
    → IsSectionFor (over_signature (signature_read l.reader)) written (signature_read l.reader) l.section.variables.items
    → AreKeptFormals (over_signature (signature_read l.reader))
    (map (question_in true written (group_of l.group)) (map written_equation_of (take l.equation-index l.equation-items))) l.fn.list l.list)
    × AreFormalsOver (signature_read l.reader) l.list
