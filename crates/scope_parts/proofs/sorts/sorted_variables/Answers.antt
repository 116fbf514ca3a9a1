use Rattle.std.proofs.Common.{◌+◌, ◌∷◌, [], ℕ, suc, map, drop, refl, ap, ◌∙◌}
use Rattle.std.proofs.lemmas.List.{map-append}
use Rattle.sort_terms.specs.EquationView.{variable_of as resolved_variable}
use Rattle.sort_terms.specs.ReaderView.{signature_read}
use Rattle.syntax_trees.specs.TreeViews.{written_variable_of, written_variables_of}
use Rattle.scope_parts.specs.Sorts.{variable_at, sorted_variables}
use Rattle.scope_parts.proofs.AnswerLemmas.{prefixed, loop_step, loop_fault, loop_end, loop_start, err_is}
use Rattle.scope_parts.proofs.sorts.sorted_variables.Goals as goal

pub loop-text-init : goal.loop-text-init
loop-text-init c =
    loop_start (map resolved_variable c.in_ok-made.made.items)
    (sorted_variables (signature_read c.args.reader.now) c.args.first (written_variables_of c.deref-text-items.result.now))
    (ap (map resolved_variable) c.in_ok-made.ensures.items)

pub loop-text-preserved : goal.loop-text-preserved
loop-text-preserved c =
    ap
    (λ (n : ℕ). prefixed (map resolved_variable c.push.new.self.items)
    (sorted_variables (signature_read c.args.reader.now) n
    (written_variables_of (drop (c.loop-text.text-index + 1) c.deref-text-items.result.now))))
    c.in_ok-number.ensures
    ∙ loop_step (λ xs. sorted_variables (signature_read c.args.reader.now) c.loop-text.number (written_variables_of xs))
    (λ xs. sorted_variables (signature_read c.args.reader.now) (suc c.loop-text.number) (written_variables_of xs))
    (λ x. variable_at (signature_read c.args.reader.now) c.loop-text.number (written_variable_of x))
    (λ x xs. refl) c.deref-text-items.result.now c.loop-text.text-index c.text-item.result
    (map resolved_variable c.loop-text.made.items) (map resolved_variable c.push.new.self.items)
    (resolved_variable c.in_ok-variable.variable) _ c.loop-text-test.true c.text-item.is c.loop-text.invariant c.in_ok-variable.ensures
    (ap (map resolved_variable) c.in_ok-push.ensures.items
    ∙ map-append resolved_variable c.loop-text.made.items (c.in_ok-variable.variable ∷ []))

pub returns-in_err-variable : goal.returns-in_err-variable
returns-in_err-variable c =
    err_is _ c.from_residual-in_err-variable.result c.in_err-variable.field-0.0 _ c.from_residual-in_err-variable.ensures.1
    (loop_fault (λ xs. sorted_variables (signature_read c.args.reader.now) c.loop-text.number (written_variables_of xs))
    (λ xs. sorted_variables (signature_read c.args.reader.now) (suc c.loop-text.number) (written_variables_of xs))
    (λ x. variable_at (signature_read c.args.reader.now) c.loop-text.number (written_variable_of x))
    (λ x xs. refl) c.deref-text-items.result.now c.loop-text.text-index c.text-item.result
    (map resolved_variable c.loop-text.made.items)
    (sorted_variables (signature_read c.args.reader.now) c.args.first (written_variables_of c.args.texts.now.items))
    c.in_err-variable.field-0.0 c.loop-text-test.true c.text-item.is
    (c.loop-text.invariant
    ∙ ap (λ xs. sorted_variables (signature_read c.args.reader.now) c.args.first (written_variables_of xs))
    c.deref-text-items.ensures.value)
    c.in_err-variable.ensures)

pub returns : goal.returns
returns c =
    loop_end (λ xs. sorted_variables (signature_read c.args.reader.now) c.loop-text.number (written_variables_of xs)) refl
    c.deref-text-items.result.now c.loop-text.text-index (map resolved_variable c.loop-text.made.items) _ c.loop-text-test.false
    c.loop-text.invariant
    ∙ ap (λ xs. sorted_variables (signature_read c.args.reader.now) c.args.first (written_variables_of xs)) c.deref-text-items.ensures.value
