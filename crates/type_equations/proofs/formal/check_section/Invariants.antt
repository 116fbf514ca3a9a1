use Rattle.std.proofs.Common.{◌≡◌, true, map, take}
use Rattle.std.specs.List.{flat_map}
use Rattle.syntax_trees.specs.TreeViews.{group_of, written_variables_of}
use Rattle.sort_terms.specs.ReaderView.{signature_read}
use Rattle.type_definitions.specs.Presentation.{Presentation}
use Rattle.type_definitions.specs.DeclaredEquations.{GiveAll, asked_of_group}
use Rattle.type_equations.specs.Truth.{IsTruth}
use Rattle.type_equations.proofs.formal.check_section.Given as goal

abbrev pub invariant-loop-group : goal.invariant-loop-group
invariant-loop-group l = (p : Presentation) → p.signature ≡ signature_read l.reader → IsTruth p l.truth
    → GiveAll p
    (flat_map (asked_of_group true (written_variables_of l.section.variables.items)) (map group_of (take l.group-index l.group-items))) p
