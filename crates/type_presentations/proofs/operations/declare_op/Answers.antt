use Rattle.std.proofs.Common.{List, ℕ, length, ap, sym, ◌∙◌}
use Rattle.std.proofs.lemmas.List.{length-map}
use Rattle.std.proofs.lemmas.Result.{err_from_is_err_and}
use Rattle.lotos_base.specs.Name.{spelling}
use Rattle.lotos_base.specs.WrittenView.{form_of}
use Rattle.lotos_base.specs.Signature.{Operation}
use Rattle.sort_terms.specs.Operations.{operation_of}
use Rattle.syntax_trees.specs.TreeViews.{written_operation_of}
use Rattle.type_definitions.proofs.HoldsLemmas.{holds_weaker}
use Rattle.type_definitions.specs.Presentation.{Presentation, is_too_large}
use Rattle.type_presentations.specs.PresentationView.{presentation_of}
use Rattle.type_presentations.specs.Growth.{with_operation_mark}
use Rattle.type_presentations.specs.DeclaredOperation.{sort_names}
use Rattle.type_presentations.proofs.DeclareLemmas.{fits_as_written, misfit, sort_missing, operation_fault_is, with_operation_is, sorts_are_known, few_names}
use Rattle.type_presentations.proofs.operations.declare_op.Goals as goal

pub returns-then-not-is_fitting : goal.returns-then-not-is_fitting
returns-then-not-is_fitting c =
    misfit (spelling c.args.type_name.now) c.args.is_formal (presentation_of c.args.presentation.now) (written_operation_of c.args.op.now)
    (fits_as_written (form_of c.args.op.now.form) c.args.op.now.arguments.items c.fits-is_fitting.result _ c.fits-is_fitting.ensures
    c.if-not-is_fitting.true)

pub op_of-requires : goal.op_of-requires
op_of-requires c = (
  sort_names (presentation_of c.args.presentation.now),
  c.requires.named,
  few_names
      (presentation_of c.args.presentation.now) c.requires.within,
)

pub returns-in_err-made : goal.returns-in_err-made
returns-in_err-made c =
    let e = err_from_is_err_and c.from_residual.result c.from_residual.ensures.1 in
    rw (e.1, e.2)
    (holds_weaker _ _ c.in_err-made.field-0.0
    (λ f found.
    sort_missing (spelling c.args.type_name.now) c.args.is_formal (presentation_of c.args.presentation.now)
    (written_operation_of c.args.op.now) f (fits_as_written (form_of c.args.op.now.form) c.args.op.now.arguments.items
    c.fits-is_fitting.result _ c.fits-is_fitting.ensures
    c.if-not-is_fitting.false) found)
    (c.in_err-made.ensures (presentation_of c.args.presentation.now) c.requires.named))

pub add_op-requires-clause-known : goal.add_op-requires-clause-known
add_op-requires-clause-known c =
    let made = c.in_ok-made.ensures (presentation_of c.args.presentation.now) c.requires.named in
    sorts_are_known (spelling c.args.type_name.now) (presentation_of c.args.presentation.now) (written_operation_of c.args.op.now)
    (operation_of c.in_ok-made.made) made.0 made.1

pub returns-in_err-add_op : goal.returns-in_err-add_op
returns-in_err-add_op c =
    let e = err_from_is_err_and c.from_residual-in_err-add_op.result c.from_residual-in_err-add_op.ensures.1 in
    let made = c.in_ok-made.ensures (presentation_of c.args.presentation.now) c.requires.named in
    rw (e.1, e.2)
    (holds_weaker _ _ c.in_err-add_op.field-0.0
    (λ f found.
    sym (operation_fault_is (spelling c.args.type_name.now) c.args.is_formal (presentation_of c.args.presentation.now)
    (written_operation_of c.args.op.now) (operation_of c.in_ok-made.made)
    (fits_as_written (form_of c.args.op.now.form) c.args.op.now.arguments.items c.fits-is_fitting.result _ c.fits-is_fitting.ensures
    c.if-not-is_fitting.false) made.0
    made.1)
    ∙ found)
    c.in_err-add_op.ensures)

pub returns : goal.returns
returns c =
    let made = c.in_ok-made.ensures (presentation_of c.args.presentation.now) c.requires.named in
    let added = c.in_ok-add_op.ensures in
    let number : ℕ = length c.ops.result.now in (
      sym (operation_fault_is (spelling c.args.type_name.now) c.args.is_formal (presentation_of c.args.presentation.now)
          (written_operation_of c.args.op.now) (operation_of c.in_ok-made.made)
          (fits_as_written (form_of c.args.op.now.form) c.args.op.now.arguments.items c.fits-is_fitting.result _ c.fits-is_fitting.ensures
          c.if-not-is_fitting.false) made.0 made.1)
          ∙ added.0,
      c.in_ok-mark_op.ensures.marked ∙ ap (λ (q : Presentation). with_operation_mark q c.args.is_formal number) added.1
          ∙ with_operation_is (spelling c.args.type_name.now) c.args.is_formal (presentation_of c.args.presentation.now)
          (written_operation_of c.args.op.now) (operation_of c.in_ok-made.made) number made.1
          (sym (length-map c.ops.result.now (λ op. operation_of op.value)) ∙ ap (λ (xs : List Operation). length xs) c.ops.ensures),
      c.in_ok-mark_op.ensures.sound,
      ap (λ (p : Presentation). is_too_large p) c.in_ok-mark_op.ensures.marked ∙ added.3,
    )
