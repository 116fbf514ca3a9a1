use Rattle.std.proofs.Common.{◌<◌, ◌≤◌, List, length, refl, ap, subst, ◌∙◌, arith}
use Rattle.lotos_base.specs.Equation.{Data}
use Rattle.lotos_base.specs.Term.{Term}
use Rattle.behaviour_semantics.specs.Behaviour.{Test}
use Rattle.behaviour_semantics.specs.Solving.{differing, test_in}
use Rattle.event_offers.specs.OfferView.{condition_of, condition_sides}
use Rattle.event_offers.specs.Offers.{IsConditionOf}
use Rattle.event_offers.proofs.InPlace.{changed_have, changed_length, changed_more, changed_views, had_next}
use Rattle.event_offers.proofs.KeepingLemmas.{holds_after, keeps_both}
use Rattle.draft_solving.proofs.ChangingLemmas.{AreSidesSettled}
use Rattle.draft_solving.proofs.changing.canonical_conditions.Goals as goal

pub settle_sides-requires : goal.settle_sides-requires
settle_sides-requires g c =
    let data_ = g.D.Deciding.known_data c.args.decider.now in
    let canon = g.D.Deciding.canon c.args.decider.now in
    let count = changed_length (AreSidesSettled data_.signature canon) c.loop-i.i c.args.conditions.items c.loop-i.made.items
    c.loop-i.invariant.0 in
    let within : c.loop-i.i < length c.loop-i.made.items = omega (arith, count) in
    holds_after (λ (d : Data) (k : Term → Term). IsConditionOf d.signature (condition_sides c.index_mut.result.now))
    c.loop-i.invariant.1
    (had_next (AreSidesSettled data_.signature canon) condition_sides (IsConditionOf data_.signature) c.loop-i.i
    c.args.conditions.items c.loop-i.made.items c.index_mut.result.now within c.index_mut.ensures.value c.loop-i.invariant.0 c.requires)

pub loop-i-preserved : goal.loop-i-preserved
loop-i-preserved g c =
    let data_ = g.D.Deciding.known_data c.args.decider.now in
    let canon = g.D.Deciding.canon c.args.decider.now in
    let count = changed_length (AreSidesSettled data_.signature canon) c.loop-i.i c.args.conditions.items c.loop-i.made.items
    c.loop-i.invariant.0 in
    let within : c.loop-i.i < length c.loop-i.made.items = omega (arith, count) in (
      changed_more (AreSidesSettled data_.signature canon) c.loop-i.i c.args.conditions.items c.loop-i.made.items _
          c.index_mut.result.now c.settle_sides.new.condition within c.index_mut.ensures.value refl
          (record {
            same = c.in_ok-settle_sides.ensures.same
                ∙ ap (λ (k : Term → Term). test_in k (condition_of c.index_mut.result.now))
                c.loop-i.invariant.1.same_canon;
            is_of = subst (λ (d : Data). IsConditionOf d.signature (condition_sides c.settle_sides.new.condition))
                c.loop-i.invariant.1.same_data c.in_ok-settle_sides.ensures.is_of;
          })
          c.loop-i.invariant.0,
      keeps_both c.loop-i.invariant.1 c.in_ok-settle_sides.ensures.same_known,
    )

pub returns-clause-same : goal.returns-clause-same
returns-clause-same g c =
    let data_ = g.D.Deciding.known_data c.args.decider.now in
    let canon = g.D.Deciding.canon c.args.decider.now in
    let count = changed_length (AreSidesSettled data_.signature canon) c.loop-i.i c.args.conditions.items c.loop-i.made.items
    c.loop-i.invariant.0 in
    let past : length c.loop-i.made.items ≤ c.loop-i.i = omega (arith, count) in
    c.drop_settled.ensures.same
    ∙ ap (λ (tests : List Test). differing tests)
    (changed_views (AreSidesSettled data_.signature canon) condition_of (test_in canon) (λ old now h. h.same)
    c.loop-i.i c.args.conditions.items c.loop-i.made.items past c.loop-i.invariant.0)

pub returns-clause-is_of : goal.returns-clause-is_of
returns-clause-is_of g c =
    let data_ = g.D.Deciding.known_data c.args.decider.now in
    let canon = g.D.Deciding.canon c.args.decider.now in
    let count = changed_length (AreSidesSettled data_.signature canon) c.loop-i.i c.args.conditions.items c.loop-i.made.items
    c.loop-i.invariant.0 in
    let past : length c.loop-i.made.items ≤ c.loop-i.i = omega (arith, count) in
    c.drop_settled.ensures.is_of data_.signature
    (changed_have (AreSidesSettled data_.signature canon) condition_sides (IsConditionOf data_.signature) (λ old now h. h.is_of)
    c.loop-i.i c.args.conditions.items c.loop-i.made.items past c.loop-i.invariant.0)
