use Rattle.std.proofs.Common.{◌++◌, ap, ◌∙◌}
use Rattle.lotos_base.specs.WrittenTerm.{written_terms}
use Rattle.lotos_base.specs.WrittenView.{written_terms_of}
use Rattle.sort_terms.specs.ScopeView.{variables_in}
use Rattle.scope_parts.specs.Seen.{seen_in_each}
use Rattle.scope_parts.specs.VisibleView.{visible_in}
use Rattle.scope_parts.proofs.VisibleLemmas.{seen_whole, seen_next, seen_done, if_promised}
use Rattle.scope_parts.proofs.visible.Visible.+seeing.Goals as goal

pub add_seen-returns : goal.add_seen-returns
add_seen-returns t c =
    if_promised c.add_all_seen.result
    (seen_whole (visible_in c.args.self.now) c.args.written.now (variables_in c.args.scope.now) (variables_in c.add_named.new.scope)
    (variables_in c.add_all_seen.new.scope) c.in_ok-add_named.ensures)
    c.add_all_seen.ensures

pub add_all_seen-loop-term-preserved : goal.add_all_seen-loop-term-preserved
add_all_seen-loop-term-preserved t c =
    seen_next (visible_in c.args.self.now) c.deref-term-items.result.now c.loop-term.term-index c.term-item.result
    (variables_in c.loop-term.scope) (variables_in c.add_seen.new.scope) _ c.loop-term-test.true c.term-item.is c.in_ok-add_seen.ensures
    c.loop-term.invariant

pub add_all_seen-returns : goal.add_all_seen-returns
add_all_seen-returns t c =
    seen_done (visible_in c.args.self.now) c.deref-term-items.result.now c.loop-term.term-index (variables_in c.loop-term.scope) _
    c.loop-term-test.false c.loop-term.invariant
    ∙ ap (λ ws. variables_in c.args.scope.now ++ seen_in_each (visible_in c.args.self.now) (written_terms (written_terms_of ws)))
    c.deref-term-items.ensures.value
