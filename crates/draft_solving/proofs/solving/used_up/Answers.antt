use Rattle.std.proofs.Common.{◌≡◌, ℕ, map, None, ap, ◌∙◌, subst, Vec, Global}
use Rattle.lotos_base.specs.Equation.{Data}
use Rattle.lotos_base.specs.Term.{Term}
use Rattle.behaviour_semantics.specs.Solving.{SolvesTo, test_in}
use Rattle.event_offers.specs.OfferView.{condition_profiles, plain_draft}
use Rattle.event_offers.specs.Offers.{AreConditionsOf}
use Rattle.event_offers.specs.declared.drafts.Draft.{Draft}
use Rattle.event_offers.proofs.KeepingLemmas.{held_before, holds_after, keeps_both}
use Rattle.draft_solving.specs.Changing.{AreReadyPairs, changed_by}
use Rattle.draft_solving.specs.Conditions.{HasUnmet}
use Rattle.draft_solving.specs.Putting.{tests_in}
use Rattle.draft_solving.proofs.UnderWay.{below, fewer, given_is_of, given_of, lacks, nothing_left, ready, under_next}
use Rattle.draft_solving.proofs.solving.used_up.Goals as goal

pub put_everywhere-requires-clause-ready : goal.put_everywhere-requires-clause-ready
put_everywhere-requires-clause-ready g c =
    let data_ = g.D.Deciding.known_data c.args.decider.now in
    let canon = g.D.Deciding.canon c.args.decider.now in
    let work = c.solving.work in
    holds_after (λ (d : Data) (k : Term → Term). AreReadyPairs d.signature k c.turned-found.result
    (condition_profiles c.solving.work.spread.items)) c.solving.invariant.2
    (ready data_ canon (g.met.D.Deciding.is_canon c.args.decider.now) work c.solving.invariant.0 c.next_place-work.result
    (c.next_place-work.ensures.passed c.solving.invariant.0.passed) c.in-Some.given
    (given_of c.in_ok-given.given c.in-Some.given _ c.in-Some.is c.in_ok-given.ensures.same) c.turned-found.new.names.items
    c.turned-found.result c.turned-found.ensures.turned
    (c.turned-found.ensures.is_of data_.signature (given_is_of c.in_ok-given.given c.in-Some.given
    (condition_profiles work.spread.items) data_.signature c.in-Some.is c.in_ok-given.ensures.is_of c.solving.invariant.0.is_of)))

pub put_everywhere-requires-clause-lacks : goal.put_everywhere-requires-clause-lacks
put_everywhere-requires-clause-lacks g c =
    let data_ = g.D.Deciding.known_data c.args.decider.now in
    let canon = g.D.Deciding.canon c.args.decider.now in
    let work = c.solving.work in
    lacks data_ canon (g.met.D.Deciding.is_canon c.args.decider.now) work c.solving.invariant.0 c.next_place-work.result
    (c.next_place-work.ensures.passed c.solving.invariant.0.passed) c.in-Some.given
    (given_of c.in_ok-given.given c.in-Some.given _ c.in-Some.is c.in_ok-given.ensures.same) c.turned-found.new.names.items
    c.turned-found.result c.turned-found.ensures.turned
    (c.turned-found.ensures.is_of data_.signature (given_is_of c.in_ok-given.given c.in-Some.given
    (condition_profiles work.spread.items) data_.signature c.in-Some.is c.in_ok-given.ensures.is_of c.solving.invariant.0.is_of))

pub put_everywhere-requires-clause-below : goal.put_everywhere-requires-clause-below
put_everywhere-requires-clause-below g c =
    let data_ = g.D.Deciding.known_data c.args.decider.now in
    let canon = g.D.Deciding.canon c.args.decider.now in
    let work = c.solving.work in
    below data_ canon (g.met.D.Deciding.is_canon c.args.decider.now) work c.solving.invariant.0 c.next_place-work.result
    (c.next_place-work.ensures.passed c.solving.invariant.0.passed) c.in-Some.given
    (given_of c.in_ok-given.given c.in-Some.given _ c.in-Some.is c.in_ok-given.ensures.same) c.turned-found.new.names.items
    c.turned-found.result c.turned-found.ensures.turned
    (c.turned-found.ensures.is_of data_.signature (given_is_of c.in_ok-given.given c.in-Some.given
    (condition_profiles work.spread.items) data_.signature c.in-Some.is c.in_ok-given.ensures.is_of c.solving.invariant.0.is_of))

pub returns-then-not-branch-clause-nothing : goal.returns-then-not-branch-clause-nothing
returns-then-not-branch-clause-nothing g c = λ _.
    let data_ = g.D.Deciding.known_data c.args.decider.now in
    let canon = g.D.Deciding.canon c.args.decider.now in
    let work = c.solving.work in
    subst (λ (d : Draft). SolvesTo canon (plain_draft d) None) c.solving.invariant.1
    (nothing_left data_ canon (g.met.D.Deciding.is_canon c.args.decider.now) work c.solving.invariant.0 c.next_place-work.result
    (c.next_place-work.ensures.passed c.solving.invariant.0.passed) c.in-Some.given
    (given_of c.in_ok-given.given c.in-Some.given _ c.in-Some.is c.in_ok-given.ensures.same) c.turned-found.new.names.items
    c.turned-found.result c.turned-found.ensures.turned
    (c.turned-found.ensures.is_of data_.signature (given_is_of c.in_ok-given.given c.in-Some.given
    (condition_profiles work.spread.items) data_.signature c.in-Some.is c.in_ok-given.ensures.is_of c.solving.invariant.0.is_of))
    (held_before (λ (d : Data) (k : Term → Term). HasUnmet (map (test_in (changed_by k c.turned-found.result)) (tests_in work)))
    c.solving.invariant.2 (c.in_ok-put_everywhere-in-Some.ensures.unmet c.if-not-branch.true)))

pub solving-smaller : goal.solving-smaller
solving-smaller g c =
    let data_ = g.D.Deciding.known_data c.args.decider.now in
    let canon = g.D.Deciding.canon c.args.decider.now in
    let work = c.solving.work in
    fewer data_ canon (g.met.D.Deciding.is_canon c.args.decider.now) work c.solving.invariant.0 c.next_place-work.result
    (c.next_place-work.ensures.passed c.solving.invariant.0.passed) c.in-Some.given
    (given_of c.in_ok-given.given c.in-Some.given _ c.in-Some.is c.in_ok-given.ensures.same) c.turned-found.new.names.items
    c.turned-found.result c.turned-found.ensures.turned
    (c.turned-found.ensures.is_of data_.signature (given_is_of c.in_ok-given.given c.in-Some.given
    (condition_profiles work.spread.items) data_.signature c.in-Some.is c.in_ok-given.ensures.is_of c.solving.invariant.0.is_of))
    c.put_everywhere.new.work c.in_ok-put_everywhere-in-Some.ensures.draft
    (ap (λ (v : Vec ℕ Global). v.items) c.in_ok-put_everywhere-in-Some.ensures.names)
    (held_before (λ (d : Data) (k : Term → Term). tests_in c.put_everywhere.new.work
    ≡ map (test_in (changed_by k c.turned-found.result)) (tests_in work)) c.solving.invariant.2
    (c.in_ok-put_everywhere-in-Some.ensures.put c.if-not-branch.false))

pub solving-preserved : goal.solving-preserved
solving-preserved g c =
    let data_ = g.D.Deciding.known_data c.args.decider.now in
    let canon = g.D.Deciding.canon c.args.decider.now in
    let work = c.solving.work in
    let told = c.if-not-branch.false in (
      under_next data_ canon (g.met.D.Deciding.is_canon c.args.decider.now) work c.solving.invariant.0 c.next_place-work.result
          (c.next_place-work.ensures.passed c.solving.invariant.0.passed) c.in-Some.given
          (given_of c.in_ok-given.given c.in-Some.given _ c.in-Some.is c.in_ok-given.ensures.same) c.turned-found.new.names.items
          c.turned-found.result c.turned-found.ensures.turned
          (c.turned-found.ensures.is_of data_.signature (given_is_of c.in_ok-given.given c.in-Some.given
          (condition_profiles work.spread.items) data_.signature c.in-Some.is c.in_ok-given.ensures.is_of c.solving.invariant.0.is_of))
          c.put_everywhere.new.work c.in_ok-put_everywhere-in-Some.ensures.draft
          (ap (λ (v : Vec ℕ Global). v.items) c.in_ok-put_everywhere-in-Some.ensures.names)
          (held_before (λ (d : Data) (k : Term → Term). tests_in c.put_everywhere.new.work
          ≡ map (test_in (changed_by k c.turned-found.result)) (tests_in work)) c.solving.invariant.2
          (c.in_ok-put_everywhere-in-Some.ensures.put told))
          (held_before (λ (d : Data) (k : Term → Term). AreConditionsOf d.signature
          (condition_profiles c.put_everywhere.new.work.spread.items)) c.solving.invariant.2
          (c.in_ok-put_everywhere-in-Some.ensures.is_of told))
          (c.in_ok-put_everywhere-in-Some.ensures.size told) (c.in_ok-put_everywhere-in-Some.ensures.noted told)
          (c.in_ok-put_everywhere-in-Some.ensures.none_unmet told c.solving.invariant.0.open_still)
          (c.in_ok-put_everywhere-in-Some.ensures.passed told (c.next_place-work.ensures.passed c.solving.invariant.0.passed)),
      c.in_ok-put_everywhere-in-Some.ensures.draft ∙ c.solving.invariant.1,
      keeps_both c.solving.invariant.2 c.in_ok-put_everywhere-in-Some.ensures.same_known,
    )
