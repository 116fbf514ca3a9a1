use Rattle.std.proofs.Common.{refl, ap, ◌∙◌}
use Rattle.lotos_base.specs.WrittenView.{placed_name_of}
use Rattle.syntax_trees.specs.TreeViews.{placed_names_of}
use Rattle.scope_parts.specs.BindingsView.{bindings_in}
use Rattle.scope_parts.specs.Scope.{gate_at, gates_at}
use Rattle.scope_parts.proofs.AnswerLemmas.{loop_step, loop_fault, loop_end, loop_start, err_is}
use Rattle.scope_parts.proofs.gates.gates_at.Goals as goal

pub loop-place-init : goal.loop-place-init
loop-place-init c =
    loop_start c.in_ok-numbers.numbers.items (gates_at (bindings_in c.args.gates.now) (placed_names_of c.deref-place-items.result.now))
    c.in_ok-numbers.ensures.items

pub loop-place-preserved : goal.loop-place-preserved
loop-place-preserved c =
    loop_step (λ xs. gates_at (bindings_in c.args.gates.now) (placed_names_of xs))
    (λ xs. gates_at (bindings_in c.args.gates.now) (placed_names_of xs)) (λ x. gate_at (bindings_in c.args.gates.now) (placed_name_of x))
    (λ x xs. refl) c.deref-place-items.result.now c.loop-place.place-index c.loop-place-item.result c.loop-place.numbers.items
    c.push.new.self.items c.in_ok-number.number _ c.loop-place-test.true c.loop-place-item.is c.loop-place.invariant c.in_ok-number.ensures
    c.in_ok-push.ensures.items

pub returns-in_err-number : goal.returns-in_err-number
returns-in_err-number c =
    err_is _ c.from_residual-in_err-number.result c.in_err-number.field-0.0 _ c.from_residual-in_err-number.ensures.1
    (loop_fault (λ xs. gates_at (bindings_in c.args.gates.now) (placed_names_of xs))
    (λ xs. gates_at (bindings_in c.args.gates.now) (placed_names_of xs)) (λ x. gate_at (bindings_in c.args.gates.now) (placed_name_of x))
    (λ x xs. refl) c.deref-place-items.result.now c.loop-place.place-index c.loop-place-item.result c.loop-place.numbers.items
    (gates_at (bindings_in c.args.gates.now) (placed_names_of c.args.names.now.items))
    c.in_err-number.field-0.0 c.loop-place-test.true c.loop-place-item.is
    (c.loop-place.invariant
    ∙ ap (λ xs. gates_at (bindings_in c.args.gates.now) (placed_names_of xs)) c.deref-place-items.ensures.value)
    c.in_err-number.ensures)

pub returns : goal.returns
returns c =
    loop_end (λ xs. gates_at (bindings_in c.args.gates.now) (placed_names_of xs)) refl c.deref-place-items.result.now
    c.loop-place.place-index c.loop-place.numbers.items _ c.loop-place-test.false c.loop-place.invariant
    ∙ ap (λ xs. gates_at (bindings_in c.args.gates.now) (placed_names_of xs)) c.deref-place-items.ensures.value
