use Rattle.std.proofs.Common.{◌∙◌, ap}
use Rattle.std.proofs.lemmas.Result.{IfOk-weaker}
use Rattle.menu_parts.specs.Spread.{by_way, listed_for}
use Rattle.menu_parts.specs.declared.kept.Kept.{Kept}
use Rattle.menu_parts.proofs.SpreadKept.{kept_up, side_here}
use Rattle.menu_parts.proofs.spreading.side_made.Goals as goal

pub returns : goal.returns
returns c =
    IfOk-weaker c.shared.result _ _ (λ made e basis b h.
    let own = kept_up basis (by_way c.args.way.now) c.args.kept.value c.items.result.now c.in_ok-own.own.items
    (c.items.ensures ∙ ap (λ (k : Kept). (listed_for k).items) c.deref.ensures) h.0 c.in_ok-own.ensures in
    side_here basis (by_way c.args.way.now) b c.args.kept c.in_ok-own.own c.in_ok-part.part made.value e h own
    (c.in_ok-part.ensures basis.data_.signature own.terms)) c.shared.ensures
