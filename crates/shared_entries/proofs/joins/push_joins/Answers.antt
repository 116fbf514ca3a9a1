use Rattle.std.proofs.Common.{List, map, option_to_list, ap, sym, subst, ◌∙◌}
use Rattle.lotos_base.specs.Equation.{Data}
use Rattle.lotos_base.specs.Term.{Term}
use Rattle.behaviour_semantics.specs.Draft as plain
use Rattle.behaviour_semantics.specs.DraftOrder.{as_draft}
use Rattle.behaviour_semantics.specs.Join.{join_of_drafts, meets_with}
use Rattle.behaviour_semantics.specs.WellFormed.{Every}
use Rattle.behaviour_tree.specs.BehaviourView.{meet_of}
use Rattle.behaviour_tree.specs.MoveView.{label_of}
use Rattle.behaviour_tree.specs.declared.moves.Label.{Label}
use Rattle.event_offers.specs.OfferView.{plain_draft}
use Rattle.event_offers.specs.Offers.{IsDraftOver}
use Rattle.event_offers.proofs.KeepingLemmas.{held_before, holds_after, keeps_both, keeps_itself}
use Rattle.shared_entries.specs.PartMenus.{joins_of}
use Rattle.shared_entries.specs.Items.{HasItemTerms, IsItemOver, plain_item}
use Rattle.shared_entries.specs.Joined.{SolvesMore}
use Rattle.shared_entries.specs.declared.items.Item.{Item}
use Rattle.menu_builder.proofs.HandedOn.{at_turn}
use Rattle.shared_entries.proofs.PushedLemmas.{draft_over}
use Rattle.shared_entries.proofs.SolvedLemmas.{joins_end, joins_more, no_joins, no_more}
use Rattle.shared_entries.proofs.joins.push_joins.Goals as goal

pub returns-then-not-meets-clause-solved : goal.returns-then-not-meets-clause-solved
returns-then-not-meets-clause-solved g c =
    no_more (g.D.Deciding.canon c.args.decider.now) c.args.items.now.items
    (joins_of (g.D.Deciding.known_data c.args.decider.now) (meet_of c.args.meet.now) (plain_item c.args.left.now)
    (map plain_item c.args.rights.now.items))
    (no_joins (g.D.Deciding.known_data c.args.decider.now) (meet_of c.args.meet.now) (plain_item c.args.left.now)
    (map plain_item c.args.rights.now.items) (sym (c.if-not-meets.ensures
    ∙ ap (λ (l : Label). meets_with (meet_of c.args.meet.now) (label_of l)) c.deref.ensures)))

pub loop-right-init : goal.loop-right-init
loop-right-init g c = record {
  half = λ later rest. rest;
  terms = λ h. h;
  left = subst (Every (IsItemOver (g.D.Deciding.known_data c.args.decider.now).signature)) (sym c.deref-right-items.ensures.value)
      c.requires.rights;
  same_known = keeps_itself;
}

pub push_join-requires-clause-left : goal.push_join-requires-clause-left
push_join-requires-clause-left g c =
    holds_after (λ (d : Data) (f : Term → Term). IsDraftOver d.signature c.in_ok-first.first) c.loop-right.invariant.same_known
    (draft_over (g.D.Deciding.known_data c.args.decider.now).signature c.args.left.now c.in_ok-first.first c.in_ok-first.ensures.same
    c.in_ok-first.ensures.terms c.requires.left)

pub push_join-requires-clause-right : goal.push_join-requires-clause-right
push_join-requires-clause-right g c =
    holds_after (λ (d : Data) (f : Term → Term). IsItemOver d.signature c.right-item.result) c.loop-right.invariant.same_known
    (at_turn (IsItemOver (g.D.Deciding.known_data c.args.decider.now).signature) c.deref-right-items.result.now c.loop-right.right-index
    c.right-item.result c.loop-right-test.true c.right-item.is c.loop-right.invariant.left).0

pub loop-right-preserved : goal.loop-right-preserved
loop-right-preserved g c =
    let known = g.D.Deciding.known_data c.args.decider.now in
    let canon = g.D.Deciding.canon c.args.decider.now in
    let rights = c.deref-right-items.result.now in
    let at = c.loop-right.right-index in
    record {
      half = joins_more canon known (meet_of c.args.meet.now) (plain_item c.args.left.now) rights at c.right-item.result
          c.args.items.now.items c.loop-right.items.items c.push_join.new.items.items
          (joins_of known (meet_of c.args.meet.now) (plain_item c.args.left.now) (map plain_item rights))
          (sym (c.if-not-meets.ensures ∙ ap (λ (l : Label). meets_with (meet_of c.args.meet.now) (label_of l)) c.deref.ensures))
          c.loop-right-test.true c.right-item.is
          (subst (λ (d : plain.Draft). SolvesMore canon c.loop-right.items.items c.push_join.new.items.items
          (option_to_list (join_of_drafts known.signature d (as_draft (plain_item c.right-item.result))))) c.in_ok-first.ensures.same
          (held_before (λ (d : Data) (f : Term → Term). SolvesMore f c.loop-right.items.items c.push_join.new.items.items
          (option_to_list (join_of_drafts d.signature (plain_draft c.in_ok-first.first) (as_draft (plain_item c.right-item.result)))))
          c.loop-right.invariant.same_known c.in_ok-push_join.ensures.solved)) c.loop-right.invariant.half;
      terms = λ h. held_before (λ (d : Data) (f : Term → Term). Every (HasItemTerms d.signature) c.loop-right.items.items
          → Every (HasItemTerms d.signature) c.push_join.new.items.items) c.loop-right.invariant.same_known
          c.in_ok-push_join.ensures.terms (c.loop-right.invariant.terms h);
      left = (at_turn (IsItemOver known.signature) rights at c.right-item.result c.loop-right-test.true c.right-item.is
          c.loop-right.invariant.left).1;
      same_known = keeps_both c.loop-right.invariant.same_known c.push_join.ensures.same_known;
    }

pub returns-clause-solved : goal.returns-clause-solved
returns-clause-solved g c =
    let known = g.D.Deciding.known_data c.args.decider.now in
    let canon = g.D.Deciding.canon c.args.decider.now in
    let rights = c.deref-right-items.result.now in
    subst (λ (xs : List Item). SolvesMore canon c.args.items.now.items c.loop-right.items.items
    (joins_of known (meet_of c.args.meet.now) (plain_item c.args.left.now) (map plain_item xs))) c.deref-right-items.ensures.value
    (joins_end canon known (meet_of c.args.meet.now) (plain_item c.args.left.now) rights c.loop-right.right-index
    c.args.items.now.items c.loop-right.items.items
    (joins_of known (meet_of c.args.meet.now) (plain_item c.args.left.now) (map plain_item rights)) c.loop-right-test.false
    c.loop-right.invariant.half)
