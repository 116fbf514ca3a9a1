use Rattle.std.proofs.Common.{List, ◌∷◌, ◌+◌, drop, sym, subst}
use Rattle.std.proofs.Math.ListN.{drop_of_length-le}
use Rattle.lotos_base.proofs.Pieces.{next_member}
use Rattle.behaviour_semantics.specs.WellFormed.{Every}
use Rattle.shared_entries.specs.Items.{HasItemTerms}
use Rattle.shared_entries.specs.Rules.{AreEntriesMadeBy, entry_made_by}
use Rattle.shared_entries.specs.declared.items.Item.{Item}
use Rattle.shared_entries.proofs.ItemLemmas.{IsHalfMade, half_begun, half_done, half_more, some_at}
use Rattle.shared_entries.proofs.rules.PartRule.apply_to_all.Goals as goal

pub loop-item-preserved : goal.loop-item-preserved
loop-item-preserved c = λ signature h.
    let half : IsHalfMade signature (entry_made_by signature c.args.self.now) c.deref-item-items.result.now
    (c.item-item.result ∷ drop (c.loop-item.item-index + 1) c.deref-item-items.result.now) c.loop-item.made.items =
    subst (λ (rest : List Item). IsHalfMade signature (entry_made_by signature c.args.self.now) c.deref-item-items.result.now rest
    c.loop-item.made.items)
    (next_member c.deref-item-items.result.now c.loop-item.item-index c.item-item.result c.loop-item-test.true c.item-item.is)
    (c.loop-item.invariant signature h) in
    half_more signature (entry_made_by signature c.args.self.now) c.deref-item-items.result.now
    (drop (c.loop-item.item-index + 1) c.deref-item-items.result.now) c.loop-item.made.items c.push_made.new.items.items
    c.item-item.result c.in_ok-next.next c.in_ok-push_made.ensures (c.in_ok-next.ensures.same signature half.left.0)
    (some_at signature c.item-item.result c.in_ok-next.next c.in_ok-next.ensures.terms half.left.0) half

pub loop-item-init : goal.loop-item-init
loop-item-init c = λ signature h.
    half_begun signature (entry_made_by signature c.args.self.now) c.deref-item-items.result.now c.in_ok-made.made.items
    c.in_ok-made.ensures.items h

pub returns : goal.returns
returns c = λ signature h.
    let rule = entry_made_by signature c.args.self.now in
    let items = c.deref-item-items.result.now in
    subst (λ (xs : List Item). AreEntriesMadeBy signature rule xs c.loop-item.made.items) c.deref-item-items.ensures.value
    (half_done signature rule items (drop c.loop-item.item-index items) c.loop-item.made.items
    (drop_of_length-le items c.loop-item-test.false)
    (c.loop-item.invariant signature (subst (Every (HasItemTerms signature)) (sym c.deref-item-items.ensures.value) h)))
