use Rattle.std.proofs.Common.{List, length, map, ap, sym, ◌∙◌}
use Rattle.std.proofs.lemmas.List.{nil_from_length}
use Rattle.lotos_base.proofs.Pieces.{one_less}
use Rattle.event_offers.specs.OfferView.{plain_entry}
use Rattle.event_offers.specs.declared.drafts.Entry.{Entry}
use Rattle.shared_entries.specs.Items.{entry_terms, item_terms, plain_item}
use Rattle.shared_entries.proofs.ItemLemmas.{mapped_begun, mapped_done, mapped_more}
use Rattle.shared_entries.proofs.items.items_of.Goals as goal

pub loop-entry-init : goal.loop-entry-init
loop-entry-init c = (
  mapped_begun plain_item plain_entry c.in_ok-made.made.items _ c.in_ok-made.ensures.items,
  mapped_begun item_terms entry_terms c.in_ok-made.made.items _ c.in_ok-made.ensures.items,
  c.into_iter-entry-iterator.ensures.into_iter_gives.1 ∙ c.args.entries.ok.0
      ∙ ap length (sym c.into_iter-entry-iterator.ensures.into_iter_gives.0),
)

pub loop-entry-preserved : goal.loop-entry-preserved
loop-entry-preserved c = (
  mapped_more plain_item plain_entry c.loop-entry.made.items c.push.new.self.items c.in_ok-item.item _ _ c.in-Some.entry _
      c.in-Some.ensures.steps.0 c.in_ok-push.ensures.items c.in_ok-item.ensures.same c.loop-entry.invariant.0,
  mapped_more item_terms entry_terms c.loop-entry.made.items c.push.new.self.items c.in_ok-item.item _ _ c.in-Some.entry _
      c.in-Some.ensures.steps.0 c.in_ok-push.ensures.items c.in_ok-item.ensures.terms c.loop-entry.invariant.1,
  one_less c.in-Some.entry _ _ _ _ c.in-Some.ensures.steps.0 c.in-Some.ensures.steps.1 c.loop-entry.invariant.2,
)

pub returns-clause-same : goal.returns-clause-same
returns-clause-same c =
    mapped_done plain_item plain_entry c.loop-entry.made.items _ _
    (nil_from_length _ (sym c.loop-entry.invariant.2 ∙ c.in-None.ensures.steps.0)) c.loop-entry.invariant.0
    ∙ ap (λ (es : List Entry). map plain_entry es) c.into_iter-entry-iterator.ensures.into_iter_gives.0

pub returns-clause-terms : goal.returns-clause-terms
returns-clause-terms c =
    mapped_done item_terms entry_terms c.loop-entry.made.items _ _
    (nil_from_length _ (sym c.loop-entry.invariant.2 ∙ c.in-None.ensures.steps.0)) c.loop-entry.invariant.1
    ∙ ap (λ (es : List Entry). map entry_terms es) c.into_iter-entry-iterator.ensures.into_iter_gives.0
