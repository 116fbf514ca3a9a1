use Rattle.std.proofs.Common.{◌++◌, List, length, map, ap, sym, ◌∙◌, subst}
use Rattle.lotos_base.proofs.Pieces.{one_less}
use Rattle.behaviour_semantics.specs.WellFormed.{Every}
use Rattle.event_offers.specs.OfferView.{plain_draft}
use Rattle.event_offers.specs.Renaming.{renaming_of}
use Rattle.event_offers.specs.declared.drafts.Draft.{Draft}
use Rattle.draft_parts.specs.DraftTerms.{HasTermsOf}
use Rattle.draft_parts.specs.Lists.{plain_drafts}
use Rattle.draft_parts.specs.MetDrafts.{both_with}
use Rattle.draft_parts.proofs.MetLemmas.{copied_begun, copied_more, copied_done}
use Rattle.draft_parts.proofs.sides.push_copies.Goals as goal

pub loop-right-init : goal.loop-right-init
loop-right-init c = (
  copied_begun _ _ _ _,
  c.into_iter-right-iterator.ensures.into_iter_gives.1 ∙ c.args.rights.ok.0
      ∙ ap length (sym c.into_iter-right-iterator.ensures.into_iter_gives.0),
)

pub loop-right-preserved : goal.loop-right-preserved
loop-right-preserved c = (
  copied_more c.args.left.now c.in_ok-copy.copy (renaming_of c.args.renaming.now) c.args.drafts.now.items _ _ _ c.loop-right.drafts.items
      c.push_both.new.drafts.items c.in-Some.right c.in-Some.ensures.steps.0 c.in_ok-copy.ensures.same c.in_ok-push_both.ensures.same
      (λ signature h. c.in_ok-copy.ensures.over signature h) (λ signature h k before. c.in_ok-push_both.ensures.over signature h k before)
      c.loop-right.invariant.0,
  one_less c.in-Some.right _ _ _ _ c.in-Some.ensures.steps.0 c.in-Some.ensures.steps.1 c.loop-right.invariant.1,
)

pub returns-clause-same : goal.returns-clause-same
returns-clause-same c =
    copied_done c.args.left.now (renaming_of c.args.renaming.now) c.args.drafts.now.items _ _ c.loop-right.drafts.items
    (sym c.loop-right.invariant.1 ∙ c.in-None.ensures.steps.0) c.loop-right.invariant.0
    ∙ ap (λ (ds : List Draft). plain_drafts c.args.drafts.now.items
    ++ map (both_with (plain_draft c.args.left.now) (renaming_of c.args.renaming.now)) (plain_drafts ds))
    c.into_iter-right-iterator.ensures.into_iter_gives.0

pub returns-clause-over : goal.returns-clause-over
returns-clause-over c = λ signature h k before.
    (c.loop-right.invariant.0.over signature h
    (subst (λ (ds : List Draft). Every (HasTermsOf signature) ds) (sym c.into_iter-right-iterator.ensures.into_iter_gives.0) k) before).0
