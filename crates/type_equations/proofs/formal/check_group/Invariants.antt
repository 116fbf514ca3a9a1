use Rattle.std.proofs.Common.{true, List, map, take}
use Rattle.syntax_trees.specs.TreeViews.{written_equation_of, group_of}
use Rattle.syntax_trees.specs.WrittenVariable.{WrittenVariable}
use Rattle.sort_terms.specs.ReaderView.{signature_read}
use Rattle.type_definitions.specs.Presentation.{Presentation}
use Rattle.type_definitions.specs.DeclaredEquations.{GiveAll}
use Rattle.type_equations.specs.Truth.{IsTruth}
use Rattle.type_equations.specs.SectionScope.{IsSectionFor, question_in}
use Rattle.type_equations.proofs.formal.check_group.Given as goal

abbrev pub invariant-loop-equation : goal.invariant-loop-equation
invariant-loop-equation l = (p : Presentation) (written : List WrittenVariable)
    → IsSectionFor p written (signature_read l.reader) l.section.variables.items → IsTruth p l.truth
    → GiveAll p (map (question_in true written (group_of l.group)) (map written_equation_of (take l.equation-index l.equation-items))) p
