use Rattle.std.proofs.Common.{arith, sym, ◌∙◌}
use Rattle.sort_terms.proofs.SizeLemmas.{as_many}
use Rattle.sort_terms.proofs.discarding.exchanged.Goals as goal

-- there is a first argument
pub put_first-requires : goal.put_first-requires
put_first-requires c none =
    let same = as_many c.in-Ok.list.items c.items.result.now.items (c.in-Ok.ensures.own ∙ sym c.items.ensures) in
    grind (arith, c.is_empty.ensures, c.if-is_empty.false, c.items.result.now.ok, same, none)
