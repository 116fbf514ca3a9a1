use Rattle.std.proofs.lemmas.Result.{IfOk-weaker}
use Rattle.menu_parts.proofs.SpreadKept.{beside_for}
use Rattle.menu_parts.proofs.WayLemmas.{first_pushed, first_pushed_terms}
use Rattle.menu_parts.proofs.spreading.beside_kept.Goals as goal

pub returns : goal.returns
returns c =
    IfOk-weaker c.shared.result _ _ (λ made e basis h.
    beside_for basis c.args.node.now.value _ c.args.spread made.value c.in_ok-node.ensures e h
    (first_pushed basis.data_.signature c.new-items.result.items c.push_items.new.items.items c.deref.result.now c.args.spread.value
    c.new-items.ensures.items c.deref.ensures c.in_ok-push_items.ensures.same)
    (first_pushed_terms basis.data_.signature c.new-items.result.items c.push_items.new.items.items c.deref.result.now
    c.args.spread.value c.new-items.ensures.items c.deref.ensures c.in_ok-push_items.ensures.terms)) c.shared.ensures
