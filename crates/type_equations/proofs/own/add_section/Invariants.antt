use Rattle.std.proofs.Common.{false, map, take}
use Rattle.std.specs.List.{flat_map}
use Rattle.syntax_trees.specs.TreeViews.{group_of, written_variables_of}
use Rattle.type_definitions.specs.DeclaredEquations.{GiveAll, asked_of_group}
use Rattle.type_presentations.specs.PresentationView.{IsSound, IsWithinLimits, presentation_of}
use Rattle.type_equations.proofs.own.add_section.Given as goal

abbrev pub invariant-loop-group : goal.invariant-loop-group
invariant-loop-group l = record {
  given : GiveAll (presentation_of l.fn.presentation)
      (flat_map (asked_of_group false (written_variables_of l.section.variables.items)) (map group_of (take l.group-index l.group-items)))
      (presentation_of l.presentation);
  sound : IsSound l.presentation;
  within : IsWithinLimits l.presentation;
}
