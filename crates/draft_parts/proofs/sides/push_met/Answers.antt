use Rattle.std.proofs.Common.{◌++◌, List, map, sym, ap, ◌∙◌, append-nil, vec_len}
use Rattle.event_offers.specs.OfferView.{plain_draft}
use Rattle.event_offers.specs.Renaming.{renaming_of}
use Rattle.event_offers.specs.declared.drafts.Draft.{Draft}
use Rattle.draft_parts.specs.DraftTerms.{HasTermsOf}
use Rattle.draft_parts.specs.Lists.{plain_drafts}
use Rattle.draft_parts.specs.MetDrafts.{both_with}
use Rattle.draft_parts.proofs.ListLemmas.{empty_rest}
use Rattle.draft_parts.proofs.MetLemmas.{last_behind, last_over}
use Rattle.draft_parts.proofs.sides.push_met.Goals as goal

pub returns-in-None-clause-same : goal.returns-in-None-clause-same
returns-in-None-clause-same c =
    sym (append-nil (plain_drafts c.args.drafts.now.items))
    ∙ ap (λ (ds : List Draft). plain_drafts c.args.drafts.now.items
    ++ map (both_with (plain_draft c.args.left) (renaming_of c.args.renaming.now)) (plain_drafts ds))
    (sym (empty_rest c.pop.result c.args.rights.items (vec_len c.args.rights) c.pop.ensures.variant c.args.rights.ok.0
    (λ d e. absurd (cc (e, c.in-None.is)))))

pub returns-in_ok-push_both-in-Some-clause-same : goal.returns-in_ok-push_both-in-Some-clause-same
returns-in_ok-push_both-in-Some-clause-same c =
    last_behind c.args.left (renaming_of c.args.renaming.now) c.args.rights.items c.pop.new.self.items c.in-Some.last
    (plain_drafts c.args.drafts.now.items) (plain_drafts c.push_copies.new.drafts.items)
    (plain_drafts c.push_both.new.drafts.items) c.in-Some.ensures.items c.in_ok-push_copies-in-Some.ensures.same
    c.in_ok-push_both-in-Some.ensures.same

pub returns-in_ok-push_both-in-Some-clause-over : goal.returns-in_ok-push_both-in-Some-clause-over
returns-in_ok-push_both-in-Some-clause-over c = λ signature h k before.
    let parts = last_over (HasTermsOf signature) c.args.rights.items c.pop.new.self.items c.in-Some.last c.in-Some.ensures.items k in
    c.in_ok-push_both-in-Some.ensures.over signature h parts.1 (c.in_ok-push_copies-in-Some.ensures.over signature h parts.0 before)
