use Rattle.std.proofs.Common.{refl}
use Rattle.lotos_base.specs.Name.{spelling}
use Rattle.sort_terms.specs.ReaderView.{signature_read}
use Rattle.scope_parts.specs.Sorts.{sort_named, sorts_if}
use Rattle.scope_parts.proofs.SortLemmas.{sort_answer}
use Rattle.syntax_trees.specs.TreeViews.{written_variables_of}
use Rattle.syntax_trees.specs.declared.named.VarText.{VarText}
use Rattle.static_scope.proofs.StackLemmas.{member_step}
use Rattle.static_scope.proofs.own_processes.sorts_if.Goals as goal

pub loop-text-preserved : goal.loop-text-preserved
loop-text-preserved c =
    member_step (λ xs. sorts_if (signature_read c.args.reader.now) (written_variables_of xs))
    (λ (text : VarText). sort_named (signature_read c.args.reader.now) (spelling text.sort)) (λ x xs. refl)
    c.deref-text-items.result.now c.loop-text.text-index c.text-item.result c.loop-text.made.items c.push.new.self.items _
    c.in_ok-found.found c.loop-text-test.true c.text-item.is
    (sort_answer (signature_read c.args.reader.now) (spelling c.text-item.result.sort) c.in_ok-found.found c.in_ok-found.ensures)
    c.in_ok-push.ensures.items c.loop-text.invariant
