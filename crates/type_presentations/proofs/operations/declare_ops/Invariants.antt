use Rattle.std.proofs.Common.{map, drop}
use Rattle.lotos_base.specs.Name.{spelling}
use Rattle.syntax_trees.specs.TreeViews.{written_operation_of}
use Rattle.type_definitions.specs.Declarations.{operation_fault, with_operation}
use Rattle.type_definitions.proofs.WalkLemmas.{Walking}
use Rattle.type_presentations.specs.NamesView.{HasNames}
use Rattle.type_presentations.specs.PresentationView.{IsSound, IsWithinLimits, presentation_of}
use Rattle.type_presentations.specs.DeclaredOperation.{sort_names}
use Rattle.type_presentations.proofs.operations.declare_ops.Given as goal

abbrev pub invariant-loop-op : goal.invariant-loop-op
invariant-loop-op l =
    IsSound l.presentation × IsWithinLimits l.presentation × HasNames l.sorts (sort_names (presentation_of l.presentation))
    × Walking (operation_fault (spelling l.type_name) l.is_formal) (with_operation (spelling l.type_name) l.is_formal)
    (presentation_of l.fn.presentation) (presentation_of l.presentation) (map written_operation_of (drop l.op-index l.declared))
    (map written_operation_of l.declared)
