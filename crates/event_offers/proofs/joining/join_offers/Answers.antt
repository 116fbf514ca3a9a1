use Rattle.std.proofs.Common.{◌≡◌, length, arith, ap, sym, ◌∙◌, ℕ}
use Rattle.behaviour_semantics.specs.Draft.{draft_with}
use Rattle.behaviour_semantics.specs.Join.{both_drafts}
use Rattle.event_offers.specs.OfferView.{plain_draft}
use Rattle.event_offers.specs.Renaming.{renaming_of}
use Rattle.event_offers.specs.declared.renaming.Renaming.TheVariants.{Raised}
use Rattle.event_offers.proofs.JoinLemmas.{not_joined, are_joined, joined_over}
use Rattle.event_offers.proofs.joining.join_offers.Goals as goal

pub returns-then-not-alike-clause-joined : goal.returns-then-not-alike-clause-joined
returns-then-not-alike-clause-joined c = λ signature h k.
    not_joined signature c.args.left.now c.args.right.now (sym c.if-not-alike.ensures) h k

pub returns-clause-joined : goal.returns-clause-joined
returns-clause-joined c = λ signature h k.
    are_joined signature c.args.left.now c.args.right.now c.in_ok-made.made (sym c.if-not-alike.ensures)
    (c.in_ok-made.ensures.same ∙ ap (λ (n : ℕ). both_drafts (plain_draft c.args.left.now)
    (draft_with (renaming_of (Raised 0 n)) (plain_draft c.args.right.now)))
    (let e : c.len.result ≡ length c.args.left.now.leaves.items = omega arith in e)) h k

pub returns-clause-over : goal.returns-clause-over
returns-clause-over c = λ signature h k.
    joined_over signature c.args.left.now c.args.right.now c.in_ok-made.made (Raised 0 c.len.result)
    (record { values = c.in_ok-made.ensures.values; leaves = c.in_ok-made.ensures.leaves; conditions = c.in_ok-made.ensures.conditions })
    (are_joined signature c.args.left.now c.args.right.now c.in_ok-made.made (sym c.if-not-alike.ensures)
    (c.in_ok-made.ensures.same ∙ ap (λ (n : ℕ). both_drafts (plain_draft c.args.left.now)
    (draft_with (renaming_of (Raised 0 n)) (plain_draft c.args.right.now)))
    (let e : c.len.result ≡ length c.args.left.now.leaves.items = omega arith in e)) h.values k.values) h k
