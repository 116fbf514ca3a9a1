use Rattle.std.proofs.Common.{◌≡◌, ◌≤◌, ◌+◌, ◌∷◌, ℕ, length, List, drop, get_or, map, refl, ap, ◌∙◌, subst, arith}
use Rattle.std.proofs.lemmas.List.{drop_all}
use Rattle.lotos_base.proofs.Members.{read_at}
use Rattle.lotos_base.proofs.Pieces.{next_member}
use Rattle.lotos_base.specs.Equation.{Data}
use Rattle.lotos_base.specs.Term.{Term}
use Rattle.behaviour_semantics.specs.Solving.{test_in}
use Rattle.event_offers.proofs.KeepingLemmas.{held_before, keeps_both}
use Rattle.draft_solving.specs.Changing.{AreReadyPairs, changed_by}
use Rattle.draft_solving.specs.Conditions.{changed_at, HasUnmet}
use Rattle.draft_solving.specs.Putting.{tests_in}
use Rattle.event_offers.specs.OfferView.{condition_profiles}
use Rattle.draft_solving.proofs.PutWay.{all_are_of, all_put_again, IsPutUpTo, noted_ended, put_begun, put_ended, put_more, unmet_stays}
use Rattle.draft_solving.proofs.putting.put_everywhere.Goals as goal

pub loop-place-init : goal.loop-place-init
loop-place-init g c = (
  put_begun (g.D.Deciding.known_data c.args.decider.now) (g.D.Deciding.canon c.args.decider.now)
      (g.met.D.Deciding.is_canon c.args.decider.now) c.args.found.now c.requires.lacks c.deref-place-items.result.now c.args.work.now _
      c.requires.ready c.requires.noted c.requires.below (c.deref-place-items.ensures.value ∙ c.taken-places.ensures.all)
      c.taken-places.ensures.others c.taken-places.ensures.size refl refl refl refl,
  record { same_data = refl; same_canon = refl },
)

pub loop-place-preserved : goal.loop-place-preserved
loop-place-preserved g c =
    let data_ = g.D.Deciding.known_data c.args.decider.now in
    let canon = g.D.Deciding.canon c.args.decider.now in
    let items : List ℕ = c.deref-place-items.result.now in
    let i : ℕ = c.loop-place.place-index in
    let place : ℕ = get_or items i 0 in
    let next : drop i items ≡ place ∷ drop (i + 1) items =
    next_member items i place c.loop-place-test.true (read_at items i c.loop-place-test.true) in (
      put_more data_ canon (g.met.D.Deciding.is_canon c.args.decider.now) c.args.found.now c.requires.lacks place (drop (i + 1) items)
          c.args.work.now c.loop-place.work c.put_at.new.work
          (held_before (λ (d : Data) (k : Term → Term). tests_in c.put_at.new.work ≡ changed_at (changed_by k c.args.found.now) place
          (tests_in c.loop-place.work)) c.loop-place.invariant.1 c.in_ok-put_at.ensures.put)
          (held_before (λ (d : Data) (k : Term → Term). AreReadyPairs d.signature k c.args.found.now
          (condition_profiles c.put_at.new.work.spread.items)) c.loop-place.invariant.1 c.in_ok-put_at.ensures.ready)
          c.in_ok-put_at.ensures.kept c.in_ok-put_at.ensures.noted c.in_ok-put_at.ensures.passed
          (c.in_ok-put_at.ensures.none_unmet c.if-not-branch.false) c.in_ok-put_at.ensures.names c.in_ok-put_at.ensures.draft
          (subst (λ (rest : List ℕ). IsPutUpTo data_ canon c.args.found.now rest c.args.work.now c.loop-place.work) next
          c.loop-place.invariant.0),
      keeps_both c.loop-place.invariant.1 c.in_ok-put_at.ensures.same_known,
    )

pub returns-then-not-branch-clause-unmet : goal.returns-then-not-branch-clause-unmet
returns-then-not-branch-clause-unmet g c = λ _.
    let data_ = g.D.Deciding.known_data c.args.decider.now in
    let canon = g.D.Deciding.canon c.args.decider.now in
    let f : Term → Term = changed_by canon c.args.found.now in
    let place : ℕ = get_or c.deref-place-items.result.now c.loop-place.place-index 0 in
    let put : tests_in c.put_at.new.work ≡ changed_at f place (tests_in c.loop-place.work) =
    held_before (λ (d : Data) (k : Term → Term). tests_in c.put_at.new.work ≡ changed_at (changed_by k c.args.found.now) place
    (tests_in c.loop-place.work)) c.loop-place.invariant.1 c.in_ok-put_at.ensures.put in
    let ready : AreReadyPairs data_.signature canon c.args.found.now (condition_profiles c.put_at.new.work.spread.items) =
    held_before (λ (d : Data) (k : Term → Term). AreReadyPairs d.signature k c.args.found.now
    (condition_profiles c.put_at.new.work.spread.items)) c.loop-place.invariant.1 c.in_ok-put_at.ensures.ready in
    subst HasUnmet
    (ap (map (test_in f)) put
    ∙ (all_put_again data_ canon (g.met.D.Deciding.is_canon c.args.decider.now) c.args.found.now c.requires.lacks
    c.loop-place.work.spread.items place c.loop-place.invariant.0.ready
    ∙ c.loop-place.invariant.0.put_in))
    (unmet_stays data_ canon (g.met.D.Deciding.is_canon c.args.decider.now) c.args.found.now c.requires.lacks
    c.put_at.new.work.spread.items ready (c.in_ok-put_at.ensures.unmet c.if-not-branch.true))

pub returns-clause-put : goal.returns-clause-put
returns-clause-put g c = λ _.
    let past : length c.deref-place-items.result.now ≤ c.loop-place.place-index = omega arith in
    put_ended (g.D.Deciding.known_data c.args.decider.now) (g.D.Deciding.canon c.args.decider.now)
    (g.met.D.Deciding.is_canon c.args.decider.now) c.args.found.now c.requires.lacks c.args.work.now c.loop-place.work
    (subst (λ (rest : List ℕ). IsPutUpTo (g.D.Deciding.known_data c.args.decider.now) (g.D.Deciding.canon c.args.decider.now)
    c.args.found.now rest c.args.work.now c.loop-place.work) (drop_all c.loop-place.place-index c.deref-place-items.result.now past)
    c.loop-place.invariant.0)

pub returns-clause-is_of : goal.returns-clause-is_of
returns-clause-is_of g c = λ _.
    all_are_of (g.D.Deciding.known_data c.args.decider.now) (g.D.Deciding.canon c.args.decider.now)
    (g.met.D.Deciding.is_canon c.args.decider.now) c.args.found.now c.requires.lacks c.loop-place.work.spread.items
    c.loop-place.invariant.0.ready

pub returns-clause-noted : goal.returns-clause-noted
returns-clause-noted g c = λ _.
    let past : length c.deref-place-items.result.now ≤ c.loop-place.place-index = omega arith in
    noted_ended (g.D.Deciding.known_data c.args.decider.now) (g.D.Deciding.canon c.args.decider.now)
    (g.met.D.Deciding.is_canon c.args.decider.now) c.args.found.now c.requires.lacks c.args.work.now c.loop-place.work
    (subst (λ (rest : List ℕ). IsPutUpTo (g.D.Deciding.known_data c.args.decider.now) (g.D.Deciding.canon c.args.decider.now)
    c.args.found.now rest c.args.work.now c.loop-place.work) (drop_all c.loop-place.place-index c.deref-place-items.result.now past)
    c.loop-place.invariant.0)
