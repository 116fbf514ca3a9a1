use Rattle.std.proofs.Common.{List, sym, subst}
use Rattle.behaviour_semantics.specs.WellFormed.{Every}
use Rattle.event_offers.specs.declared.drafts.Draft.{Draft}
use Rattle.draft_parts.specs.DraftTerms.{HasTermsOf}
use Rattle.draft_parts.proofs.ListLemmas.{at_index}
use Rattle.draft_parts.proofs.MadeLemmas.{copy_turn, more_over}
use Rattle.draft_parts.proofs.parts.draft_copies.Goals as goal

pub loop-draft-preserved : goal.loop-draft-preserved
loop-draft-preserved c = record {
  same = copy_turn c.deref-draft-items.result.now c.loop-draft.draft-index c.draft-item.result c.in_ok-copied.field-0
      c.loop-draft.made.items c.push.new.self.items c.loop-draft-test.true c.draft-item.is c.in_ok-push.ensures.items
      c.in_ok-copied.ensures.same c.loop-draft.invariant.same;
  over = λ signature h. more_over signature c.loop-draft.made.items c.push.new.self.items c.in_ok-copied.field-0
      c.in_ok-push.ensures.items (c.loop-draft.invariant.over signature h)
      (c.in_ok-copied.ensures.over signature
      (at_index signature c.deref-draft-items.result.now c.loop-draft.draft-index c.draft-item.result c.loop-draft-test.true c.draft-item.is
      (c.loop-draft.invariant.left signature h)).0);
  left = λ signature h. (at_index signature c.deref-draft-items.result.now c.loop-draft.draft-index c.draft-item.result
      c.loop-draft-test.true c.draft-item.is (c.loop-draft.invariant.left signature h)).1;
}

pub returns-clause-over : goal.returns-clause-over
returns-clause-over c = λ signature h.
    c.loop-draft.invariant.over signature
    (subst (λ (ds : List Draft). Every (HasTermsOf signature) ds) (sym c.deref-draft-items.ensures.value) h)
