use Rattle.std.proofs.Common.{◌≡◌, false, List, map, take}
use Rattle.syntax_trees.specs.TreeViews.{written_equation_of, group_of}
use Rattle.syntax_trees.specs.WrittenVariable.{WrittenVariable}
use Rattle.sort_terms.specs.ReaderView.{signature_read}
use Rattle.type_definitions.specs.DeclaredEquations.{GiveAll}
use Rattle.type_presentations.specs.PresentationView.{IsSound, IsWithinLimits, presentation_of}
use Rattle.type_equations.specs.SectionScope.{IsSectionFor, question_in}
use Rattle.type_equations.proofs.own.add_group.Given as goal

abbrev pub invariant-loop-equation : goal.invariant-loop-equation
invariant-loop-equation l = record {
  given : (written : List WrittenVariable)
      → IsSectionFor (presentation_of l.fn.presentation) written (signature_read l.reader) l.section.variables.items
      → GiveAll (presentation_of l.fn.presentation)
      (map (question_in false written (group_of l.group)) (map written_equation_of (take l.equation-index l.equation-items)))
      (presentation_of l.presentation);
  same : (presentation_of l.presentation).signature ≡ (presentation_of l.fn.presentation).signature;
  sound : IsSound l.presentation;
  within : IsWithinLimits l.presentation;
}
