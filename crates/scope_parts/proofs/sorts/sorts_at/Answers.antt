use Rattle.std.proofs.Common.{refl, ap, ◌∙◌}
use Rattle.lotos_base.specs.WrittenView.{placed_name_of}
use Rattle.sort_terms.specs.ReaderView.{signature_read}
use Rattle.syntax_trees.specs.TreeViews.{placed_names_of}
use Rattle.scope_parts.specs.Sorts.{sort_at, sorts_at}
use Rattle.scope_parts.proofs.AnswerLemmas.{loop_step, loop_fault, loop_end, loop_start, err_is}
use Rattle.scope_parts.proofs.sorts.sorts_at.Goals as goal

pub loop-place-init : goal.loop-place-init
loop-place-init c =
    loop_start c.in_ok-sorts.sorts.items (sorts_at (signature_read c.args.reader.now) (placed_names_of c.deref-place-items.result.now))
    c.in_ok-sorts.ensures.items

pub loop-place-preserved : goal.loop-place-preserved
loop-place-preserved c =
    loop_step (λ xs. sorts_at (signature_read c.args.reader.now) (placed_names_of xs))
    (λ xs. sorts_at (signature_read c.args.reader.now) (placed_names_of xs))
    (λ x. sort_at (signature_read c.args.reader.now) (placed_name_of x).place (placed_name_of x).name)
    (λ x xs. refl) c.deref-place-items.result.now c.loop-place.place-index c.loop-place-item.result c.loop-place.sorts.items
    c.push.new.self.items c.in_ok-sort.sort _ c.loop-place-test.true c.loop-place-item.is c.loop-place.invariant c.in_ok-sort.ensures
    c.in_ok-push.ensures.items

pub returns-in_err-sort : goal.returns-in_err-sort
returns-in_err-sort c =
    err_is _ c.from_residual-in_err-sort.result c.in_err-sort.field-0.0 _ c.from_residual-in_err-sort.ensures.1
    (loop_fault (λ xs. sorts_at (signature_read c.args.reader.now) (placed_names_of xs))
    (λ xs. sorts_at (signature_read c.args.reader.now) (placed_names_of xs))
    (λ x. sort_at (signature_read c.args.reader.now) (placed_name_of x).place (placed_name_of x).name)
    (λ x xs. refl) c.deref-place-items.result.now c.loop-place.place-index c.loop-place-item.result c.loop-place.sorts.items
    (sorts_at (signature_read c.args.reader.now) (placed_names_of c.args.names.now.items))
    c.in_err-sort.field-0.0 c.loop-place-test.true c.loop-place-item.is
    (c.loop-place.invariant
    ∙ ap (λ xs. sorts_at (signature_read c.args.reader.now) (placed_names_of xs)) c.deref-place-items.ensures.value)
    c.in_err-sort.ensures)

pub returns : goal.returns
returns c =
    loop_end (λ xs. sorts_at (signature_read c.args.reader.now) (placed_names_of xs)) refl c.deref-place-items.result.now
    c.loop-place.place-index c.loop-place.sorts.items _ c.loop-place-test.false c.loop-place.invariant
    ∙ ap (λ xs. sorts_at (signature_read c.args.reader.now) (placed_names_of xs)) c.deref-place-items.ensures.value
