use Rattle.std.proofs.Common.{◌≡◌, ap, sym, ◌∙◌, string_bytes}
use Rattle.lotos_base.proofs.TextUnder.{Puts-set, Puts-added}
use Rattle.lotos_base.proofs.memory_shelf.store.Goals as goal

pub returns-in-Some-clause-stored : goal.returns-in-Some-clause-stored
returns-in-Some-clause-stored c =
    let first = rw c.as_slice.ensures.value at c.in-Some.ensures in
    let old = c.index_mut.result.now in
    let named : string_bytes old.0 ≡ c.args.name.now = ap (λ file. string_bytes file.0) c.index_mut.ensures.value ∙ first.named old in
    rw (sym c.in_ok-text.ensures.items) (Puts-set c.args.files.now.items c.in-Some.index c.args.name.now (old.0, c.in_ok-text.text) first
    named)

pub returns-in_ok-push-in-None-clause-stored : goal.returns-in_ok-push-in-None-clause-stored
returns-in_ok-push-in-None-clause-stored c =
    rw (c.in_ok-push-in-None.ensures.items, sym c.in_ok-text.ensures.items)
    (Puts-added c.args.files.now.items c.args.name.now (c.in_ok-owned-in-None.owned, c.in_ok-text.text)
    (rw c.as_slice.ensures.value at c.in-None.ensures) c.in_ok-owned-in-None.ensures.ok)
