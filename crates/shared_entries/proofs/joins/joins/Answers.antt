use Rattle.std.proofs.Common.{List, [], map, sym, subst}
use Rattle.lotos_base.specs.Equation.{Data}
use Rattle.lotos_base.specs.Term.{Term}
use Rattle.behaviour_semantics.specs.Listing.{AllSolveTo}
use Rattle.behaviour_semantics.specs.WellFormed.{Every}
use Rattle.behaviour_tree.specs.BehaviourView.{meet_of}
use Rattle.event_offers.proofs.KeepingLemmas.{held_before, holds_after, keeps_both, keeps_itself}
use Rattle.shared_entries.specs.PartMenus.{joins, joins_of}
use Rattle.shared_entries.specs.Items.{HasItemTerms, IsItemOver, plain_item}
use Rattle.shared_entries.specs.Joined.{SolvesMore}
use Rattle.shared_entries.specs.declared.items.Item.{Item}
use Rattle.menu_builder.proofs.HandedOn.{at_turn}
use Rattle.shared_entries.proofs.SolvedLemmas.{IsHalfSolved, lefts_end, lefts_more}
use Rattle.shared_entries.proofs.joins.joins.Goals as goal

pub loop-left-init : goal.loop-left-init
loop-left-init g c =
    let known = g.D.Deciding.known_data c.args.decider.now in
    let canon = g.D.Deciding.canon c.args.decider.now in
    let whole = joins known (meet_of c.args.meet.now) (map plain_item c.deref-left-items.result.now)
    (map plain_item c.args.rights.now.items)
    in
    record {
      half = subst (λ (xs : List Item). IsHalfSolved canon [] xs whole whole) (sym c.new-made.ensures.items) (λ later rest. rest);
      terms = subst (Every (HasItemTerms known.signature)) (sym c.new-made.ensures.items) tt;
      left = subst (Every (IsItemOver known.signature)) (sym c.deref-left-items.ensures.value) c.requires.lefts;
      same_known = keeps_itself;
    }

pub push_joins-requires-clause-left : goal.push_joins-requires-clause-left
push_joins-requires-clause-left g c =
    holds_after (λ (d : Data) (f : Term → Term). IsItemOver d.signature c.left-item.result) c.loop-left.invariant.same_known
    (at_turn (IsItemOver (g.D.Deciding.known_data c.args.decider.now).signature) c.deref-left-items.result.now c.loop-left.left-index
    c.left-item.result c.loop-left-test.true c.left-item.is c.loop-left.invariant.left).0

pub push_joins-requires-clause-rights : goal.push_joins-requires-clause-rights
push_joins-requires-clause-rights g c =
    holds_after (λ (d : Data) (f : Term → Term). Every (IsItemOver d.signature) c.args.rights.now.items) c.loop-left.invariant.same_known
    c.requires.rights

pub loop-left-preserved : goal.loop-left-preserved
loop-left-preserved g c =
    let known = g.D.Deciding.known_data c.args.decider.now in
    let canon = g.D.Deciding.canon c.args.decider.now in
    let lefts = c.deref-left-items.result.now in
    let at = c.loop-left.left-index in
    record {
      half = lefts_more canon known (meet_of c.args.meet.now) lefts at c.left-item.result (map plain_item c.args.rights.now.items) []
          c.loop-left.made.items c.push_joins.new.items.items
          (joins known (meet_of c.args.meet.now) (map plain_item lefts) (map plain_item c.args.rights.now.items))
          c.loop-left-test.true c.left-item.is
          (held_before (λ (d : Data) (f : Term → Term). SolvesMore f c.loop-left.made.items c.push_joins.new.items.items
          (joins_of d (meet_of c.args.meet.now) (plain_item c.left-item.result) (map plain_item c.args.rights.now.items)))
          c.loop-left.invariant.same_known c.in_ok-push_joins.ensures.solved) c.loop-left.invariant.half;
      terms = held_before (λ (d : Data) (f : Term → Term). Every (HasItemTerms d.signature) c.loop-left.made.items
          → Every (HasItemTerms d.signature) c.push_joins.new.items.items) c.loop-left.invariant.same_known
          c.in_ok-push_joins.ensures.terms c.loop-left.invariant.terms;
      left = (at_turn (IsItemOver known.signature) lefts at c.left-item.result c.loop-left-test.true c.left-item.is
          c.loop-left.invariant.left).1;
      same_known = keeps_both c.loop-left.invariant.same_known c.push_joins.ensures.same_known;
    }

pub returns-clause-solved : goal.returns-clause-solved
returns-clause-solved g c =
    let known = g.D.Deciding.known_data c.args.decider.now in
    let canon = g.D.Deciding.canon c.args.decider.now in
    let lefts = c.deref-left-items.result.now in
    let rights = map plain_item c.args.rights.now.items in
    subst (λ (xs : List Item). AllSolveTo canon (joins known (meet_of c.args.meet.now) (map plain_item xs) rights)
    (map plain_item c.loop-left.made.items)) c.deref-left-items.ensures.value
    (lefts_end canon known (meet_of c.args.meet.now) lefts c.loop-left.left-index rights c.loop-left.made.items
    (joins known (meet_of c.args.meet.now) (map plain_item lefts) rights) c.loop-left-test.false c.loop-left.invariant.half)
