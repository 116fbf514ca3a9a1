use Rattle.std.proofs.Common.{vec_len}
use Rattle.lotos_base.specs.Signature.{Signature}
use Rattle.draft_parts.specs.DraftTerms.{HasTermsOf}
use Rattle.draft_parts.specs.RuleView.{IsDraftRuleOver, made_by}
use Rattle.draft_parts.proofs.ListLemmas.{taken_over, half_more, half_done, some_at, empty_rest}
use Rattle.draft_parts.proofs.rule.Rule.apply_to_each.Goals as goal

pub loop-draft-preserved : goal.loop-draft-preserved
loop-draft-preserved c = λ signature r h.
    let fine : HasTermsOf signature c.in-Some.draft =
    taken_over signature (made_by signature c.args.self.now) c.args.drafts.items c.loop-draft.rest.items c.pop.new.self.items
    c.loop-draft.made.items c.in-Some.draft c.in-Some.ensures.items (c.loop-draft.invariant signature r h) in
    half_more signature (made_by signature c.args.self.now) c.args.drafts.items c.loop-draft.rest.items c.pop.new.self.items
    c.loop-draft.made.items c.push_made.new.drafts.items c.in-Some.draft c.in_ok-next.next c.in-Some.ensures.items
    c.in_ok-push_made.ensures (c.in_ok-next.ensures.same signature fine)
    (some_at signature c.in-Some.draft (λ (signature : Signature). IsDraftRuleOver signature c.args.self.now) c.in_ok-next.next
    c.in_ok-next.ensures.over r fine) (c.loop-draft.invariant signature r h)

pub returns : goal.returns
returns c = λ signature r h.
    half_done signature (made_by signature c.args.self.now) c.args.drafts.items c.loop-draft.rest.items c.loop-draft.made.items
    (empty_rest c.pop.result c.loop-draft.rest.items (vec_len c.loop-draft.rest) c.pop.ensures.variant c.loop-draft.rest.ok.0
    c.in_default.not-Some) (c.loop-draft.invariant signature r h)
