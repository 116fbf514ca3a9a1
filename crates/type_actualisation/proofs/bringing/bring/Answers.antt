use Rattle.std.proofs.Common.{refl}
use Rattle.std.proofs.lemmas.Result.{err_from_is_err_and}
use Rattle.type_presentations.specs.OperationListView.{OperationList}
use Rattle.type_presentations.specs.SortListView.{SortList}
use Rattle.type_presentations.specs.PresentationView.{presentation_of}
use Rattle.type_presentations.specs.declared.presentations.Presentation.{Presentation}
use Rattle.type_presentations.proofs.SignatureLemmas.{operations_differ, sorts_differ}
use Rattle.type_presentations.proofs.SizeLemmas.{within_limits}
use Rattle.type_actualisation.proofs.BringingLemmas.{brought_in, have_come, operation_parts, operations_refused, rest_refused, sort_parts, sorts_refused}
use Rattle.type_actualisation.proofs.bringing.bring.Goals as goal

-- the presentation with these sorts and operations
abbrev with_lists : Presentation → SortList → OperationList → Presentation
with_lists p sorts ops = record {
  sorts = sorts;
  ops = ops;
  equations = p.equations;
  formal_sorts = p.formal_sorts;
  formal_ops = p.formal_ops;
}

pub bring_all_sorts-requires-clause-keyed : goal.bring_all_sorts-requires-clause-keyed
bring_all_sorts-requires-clause-keyed c = c.requires.actual_sound.sorts

pub bring_all_sorts-requires-clause-differ : goal.bring_all_sorts-requires-clause-differ
bring_all_sorts-requires-clause-differ c =
    sorts_differ (presentation_of c.args.actual.now).signature c.requires.actual_sound.data_.signature

pub bring_all_sorts-requires-clause-few : goal.bring_all_sorts-requires-clause-few
bring_all_sorts-requires-clause-few c = (within_limits (presentation_of c.args.actual.now) c.requires.actual_within).sorts

pub bring_all_sorts-requires-clause-parts : goal.bring_all_sorts-requires-clause-parts
bring_all_sorts-requires-clause-parts c = (
  c.requires.parts.0,
  sort_parts c.requires.parts.0 c.args.base.now c.args.actual.now c.args.sorts.now c.args.ops.now c.requires.parts.1,
)

pub returns-in_err-came : goal.returns-in_err-came
returns-in_err-came c =
    let e = err_from_is_err_and c.from_residual.result c.from_residual.ensures.1 in
    rw (e.1, e.2)
    (λ a parts.
    sorts_refused a c.in_err-came.field-0.0
    (c.in_err-came.ensures.sorts a (sort_parts a c.args.base.now c.args.actual.now c.args.sorts.now c.args.ops.now parts)))

pub bring_all_ops-requires-clause-keyed : goal.bring_all_ops-requires-clause-keyed
bring_all_ops-requires-clause-keyed c = c.requires.actual_sound.ops

pub bring_all_ops-requires-clause-differ : goal.bring_all_ops-requires-clause-differ
bring_all_ops-requires-clause-differ c =
    operations_differ (presentation_of c.args.actual.now).signature c.requires.actual_sound.data_.signature

pub bring_all_ops-requires-clause-few : goal.bring_all_ops-requires-clause-few
bring_all_ops-requires-clause-few c = (within_limits (presentation_of c.args.actual.now) c.requires.actual_within).operations

pub bring_all_ops-requires-clause-parts : goal.bring_all_ops-requires-clause-parts
bring_all_ops-requires-clause-parts c = (
  c.requires.parts.0,
  operation_parts c.requires.parts.0 c.args.base.now c.args.actual.now c.args.sorts.now c.args.ops.now c.bring_all_sorts.new.list
      c.in_ok-came.came c.as_slice-numbers.result.now c.requires.parts.1
      (c.in_ok-came.ensures.sorts c.requires.parts.0
      (sort_parts c.requires.parts.0 c.args.base.now c.args.actual.now c.args.sorts.now c.args.ops.now c.requires.parts.1))
      c.as_slice-numbers.ensures.value,
)

pub returns-in_err-came_ops : goal.returns-in_err-came_ops
returns-in_err-came_ops c =
    let e = err_from_is_err_and c.from_residual-in_err-came_ops.result c.from_residual-in_err-came_ops.ensures.1 in
    rw (e.1, e.2)
    (λ a parts.
    let sorts = c.in_ok-came.ensures.sorts a (sort_parts a c.args.base.now c.args.actual.now c.args.sorts.now c.args.ops.now parts) in
    operations_refused a c.in_err-came_ops.field-0.0 sorts.none
    (c.in_err-came_ops.ensures.ops a
    (operation_parts a c.args.base.now c.args.actual.now c.args.sorts.now c.args.ops.now c.bring_all_sorts.new.list c.in_ok-came.came
    c.as_slice-numbers.result.now parts sorts c.as_slice-numbers.ensures.value)))

pub complete-requires : goal.complete-requires
complete-requires c =
    let a = c.requires.parts.0 in
    let parts = c.requires.parts.1 in
    let sorts = c.in_ok-came.ensures.sorts a (sort_parts a c.args.base.now c.args.actual.now c.args.sorts.now c.args.ops.now parts) in
    let ops =
    c.in_ok-came_ops.ensures.ops a
    (operation_parts a c.args.base.now c.args.actual.now c.args.sorts.now c.args.ops.now c.bring_all_sorts.new.list c.in_ok-came.came
    c.as_slice-numbers.result.now parts sorts c.as_slice-numbers.ensures.value) in (
      a,
      have_come a c.args.base.now c.args.actual.now
          (with_lists c.args.actual.now c.bring_all_sorts.new.list c.bring_all_ops.new.list) c.args.sorts.now c.args.ops.now
          c.in_ok-came.came c.in_ok-came_ops.came_ops c.requires.sound c.requires.actual_sound c.requires.actual_within parts
          c.in_ok-came.ensures.keyed c.in_ok-came_ops.ensures.keyed refl refl refl sorts ops,
    )

pub returns-in_err-complete : goal.returns-in_err-complete
returns-in_err-complete c =
    let e = err_from_is_err_and c.from_residual-in_err-complete.result c.from_residual-in_err-complete.ensures.1 in
    rw (e.1, e.2)
    (λ a parts.
    let sorts = c.in_ok-came.ensures.sorts a (sort_parts a c.args.base.now c.args.actual.now c.args.sorts.now c.args.ops.now parts) in
    let ops =
    c.in_ok-came_ops.ensures.ops a
    (operation_parts a c.args.base.now c.args.actual.now c.args.sorts.now c.args.ops.now c.bring_all_sorts.new.list
    c.in_ok-came.came c.as_slice-numbers.result.now parts sorts c.as_slice-numbers.ensures.value) in
    rest_refused a c.in_err-complete.field-0.0 sorts.none ops.none
    (c.in_err-complete.ensures a parts.mention_is
    (have_come a c.args.base.now c.args.actual.now
    (with_lists c.args.actual.now c.bring_all_sorts.new.list c.bring_all_ops.new.list) c.args.sorts.now c.args.ops.now
    c.in_ok-came.came c.in_ok-came_ops.came_ops c.requires.sound c.requires.actual_sound c.requires.actual_within parts
    c.in_ok-came.ensures.keyed c.in_ok-came_ops.ensures.keyed refl refl refl sorts ops)))

pub returns : goal.returns
returns c = λ a parts.
    let sorts = c.in_ok-came.ensures.sorts a (sort_parts a c.args.base.now c.args.actual.now c.args.sorts.now c.args.ops.now parts) in
    let ops =
    c.in_ok-came_ops.ensures.ops a
    (operation_parts a c.args.base.now c.args.actual.now c.args.sorts.now c.args.ops.now c.bring_all_sorts.new.list
    c.in_ok-came.came c.as_slice-numbers.result.now parts sorts c.as_slice-numbers.ensures.value) in (
      brought_in a c.complete.new.actual sorts.none ops.none
          (c.in_ok-complete.ensures a parts.mention_is
          (have_come a c.args.base.now c.args.actual.now
          (with_lists c.args.actual.now c.bring_all_sorts.new.list c.bring_all_ops.new.list) c.args.sorts.now c.args.ops.now
          c.in_ok-came.came c.in_ok-came_ops.came_ops c.requires.sound c.requires.actual_sound c.requires.actual_within parts
          c.in_ok-came.ensures.keyed c.in_ok-came_ops.ensures.keyed refl refl refl sorts ops)),
      record {
        has = record { sorts = sorts.none; operations = ops.none };
        sorts = sorts.came.numbers;
        operations = ops.came.numbers;
      },
    )
