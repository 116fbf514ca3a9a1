use Rattle.std.proofs.lemmas.Result.{IfOk-weaker}
use Rattle.menu_parts.proofs.SpreadKept.{has_both}
use Rattle.menu_parts.proofs.spreading.both_of.Goals as goal

pub returns : goal.returns
returns c =
    IfOk-weaker c.shared.result _ _ (λ made e.
    has_both c.args.first c.args.second c.deref.result.now c.deref-2.result.now c.part.result.now c.part-2.result.now
    c.in_ok-part.part made.value c.deref.ensures c.deref-2.ensures c.part.ensures c.part-2.ensures e c.in_ok-part.ensures)
    c.shared.ensures
