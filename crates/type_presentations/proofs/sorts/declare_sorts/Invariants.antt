use Rattle.std.proofs.Common.{drop}
use Rattle.lotos_base.specs.Name.{spelling}
use Rattle.syntax_trees.specs.TreeViews.{placed_names_of}
use Rattle.type_definitions.specs.Declarations.{sort_fault, with_sort}
use Rattle.type_definitions.proofs.WalkLemmas.{Walking}
use Rattle.type_presentations.specs.PresentationView.{IsSound, IsWithinLimits, presentation_of}
use Rattle.type_presentations.proofs.sorts.declare_sorts.Given as goal

abbrev pub invariant-loop-named : goal.invariant-loop-named
invariant-loop-named l =
    IsSound l.presentation × IsWithinLimits l.presentation
    × Walking (sort_fault (spelling l.type_name) l.is_formal) (with_sort (spelling l.type_name) l.is_formal)
    (presentation_of l.fn.presentation) (presentation_of l.presentation) (placed_names_of (drop l.named-index l.declared))
    (placed_names_of l.declared)
