use Rattle.std.proofs.Common.{List, map, sym, subst}
use Rattle.std.proofs.Math.ListN.{drop_of_length-le}
use Rattle.shared_entries.specs.Items.{plain_item}
use Rattle.menu_parts.specs.Spread.{NoneEnds}
use Rattle.shared_entries.specs.declared.items.Item.{Item}
use Rattle.lotos_base.proofs.Pieces.{next_member}
use Rattle.menu_parts.proofs.spreads.any_ends.Goals as goal

pub loop-item-preserved : goal.loop-item-preserved
loop-item-preserved c = λ h.
    c.loop-item.invariant (subst (λ (xs : List Item). NoneEnds (map plain_item xs))
    (sym (next_member c.deref-item-items.result.now c.loop-item.item-index c.item-item.result c.loop-item-test.true c.item-item.is))
    (sym c.if-ends.ensures, h))

pub returns : goal.returns
returns c = λ e.
    subst (λ (xs : List Item). NoneEnds (map plain_item xs)) c.deref-item-items.ensures.value
    (c.loop-item.invariant (subst (λ (xs : List Item). NoneEnds (map plain_item xs))
    (sym (drop_of_length-le c.deref-item-items.result.now c.loop-item-test.false)) tt))
