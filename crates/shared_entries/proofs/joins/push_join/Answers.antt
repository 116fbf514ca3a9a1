use Rattle.std.proofs.Common.{List, Option, option_to_list, refl, ap, sym, ◌∙◌, subst}
use Rattle.std.proofs.lemmas.Result.{IfOk-weaker}
use Rattle.behaviour_semantics.specs.Draft as plain
use Rattle.behaviour_semantics.specs.DraftOrder.{as_draft}
use Rattle.behaviour_semantics.specs.Join.{join_of_drafts}
use Rattle.event_offers.specs.Joining.{like_labels}
use Rattle.event_offers.specs.OfferView.{plain_draft}
use Rattle.shared_entries.specs.Items.{plain_item}
use Rattle.shared_entries.specs.Joined.{SolvesMore}
use Rattle.shared_entries.proofs.PushedLemmas.{both_over, draft_over}
use Rattle.shared_entries.proofs.SolvedLemmas.{no_more, unlike}
use Rattle.shared_entries.proofs.joins.push_join.Goals as goal

pub returns-then-not-alike-clause-solved : goal.returns-then-not-alike-clause-solved
returns-then-not-alike-clause-solved g c =
    no_more (g.D.Deciding.canon c.args.decider.now) c.args.items.now.items
    (option_to_list (join_of_drafts (g.D.Deciding.known_data c.args.decider.now).signature (plain_draft c.args.left.now)
    (as_draft (plain_item c.args.right.now))))
    (ap (λ (o : Option plain.Draft). option_to_list o)
    (unlike (g.D.Deciding.known_data c.args.decider.now).signature (plain_draft c.args.left.now) (as_draft (plain_item c.args.right.now))
    c.args.left.now.label c.args.right.now.label.value refl refl
    (sym (c.if-not-alike.ensures ∙ ap (like_labels c.args.left.now.label) c.deref.ensures)) c.requires.left.values
    c.requires.right.terms.values))

pub push_solved-requires : goal.push_solved-requires
push_solved-requires g c =
    both_over (g.D.Deciding.known_data c.args.decider.now).signature c.args.left.now c.in_ok-other.other c.in_ok-both.both
    c.in_ok-both.ensures.over c.requires.left
    (draft_over (g.D.Deciding.known_data c.args.decider.now).signature c.args.right.now c.in_ok-other.other c.in_ok-other.ensures.same
    c.in_ok-other.ensures.terms c.requires.right)

pub returns-clause-solved : goal.returns-clause-solved
returns-clause-solved g c =
    let signature = (g.D.Deciding.known_data c.args.decider.now).signature in
    IfOk-weaker c.push_solved.result _ _ (λ done e.
    subst (λ (ds : List plain.Draft). SolvesMore (g.D.Deciding.canon c.args.decider.now) c.args.items.now.items
    c.push_solved.new.items.items
    ds)
    (ap (λ (o : Option plain.Draft). option_to_list o)
    (c.in_ok-both.ensures.joined signature c.requires.left.values
    (draft_over signature c.args.right.now c.in_ok-other.other c.in_ok-other.ensures.same c.in_ok-other.ensures.terms
    c.requires.right).values
    ∙ ap (join_of_drafts signature (plain_draft c.args.left.now)) c.in_ok-other.ensures.same)) e) c.push_solved.ensures.solved
