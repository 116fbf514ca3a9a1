-- What is so of two presentations together.
use Rattle.std.specs.Prelude.{◌≡◌, false}
use Rattle.type_definitions.specs.Presentation.{Presentation as PlainPresentation, has_sort_clash, has_operation_clash}
use Rattle.type_definitions.specs.Union.{joined_presentation}
use Rattle.type_presentations.specs.SortListView.{SortList}
use Rattle.type_presentations.specs.OperationListView.{OperationList}
use Rattle.type_presentations.specs.declared.equation_list.EquationList.{EquationList}
use Rattle.type_presentations.specs.declared.marks.Marks.{Marks}
use Rattle.type_presentations.specs.declared.presentations.Presentation.{Presentation}
use Rattle.type_presentations.specs.PresentationView.{IsSound, presentation_of}
use Rattle.type_presentations.specs.declared.clashes.Clashes.{Clashes}

-- the presentation of these parts
abbrev pub in_one : SortList → OperationList → EquationList → Marks → Marks → Presentation
in_one sorts ops equations formal_sorts formal_ops = record {
  sorts = sorts;
  ops = ops;
  equations = equations;
  formal_sorts = formal_sorts;
  formal_ops = formal_ops;
}

-- The new presentation is the two joined, it is told what clashes, and without a clash the new one is sound.
pub record IsJoining (first other : PlainPresentation) (new : Presentation) (clashes : Clashes) : Type 0 where
  pub sorts_told : has_sort_clash (joined_presentation first other) ≡ clashes.sorts
  pub operations_told : has_operation_clash (joined_presentation first other) ≡ clashes.ops
  pub joined_both : presentation_of new ≡ joined_presentation first other
  pub sound : clashes.sorts ≡ false → clashes.ops ≡ false → IsSound new
