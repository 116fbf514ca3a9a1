use Rattle.std.proofs.Common.{◌<◌, ◌≤◌, length, refl, arith}
use Rattle.behaviour_semantics.specs.Replacement.{test_with}
use Rattle.event_offers.specs.OfferView.{condition_of, condition_profiles, condition_sides, conditions_of}
use Rattle.event_offers.specs.Renaming.{pair_instance, profiled_renaming_of, renaming_of}
use Rattle.event_offers.proofs.ChangedLemmas.{AreSidesRenamed, pairs_stay, tests_stay}
use Rattle.event_offers.proofs.InPlace.{changed_length, changed_more, changed_views}
use Rattle.event_offers.proofs.renaming.Renaming.changed_conditions.Goals as goal

pub returns-then-changes_nothing-clause-same : goal.returns-then-changes_nothing-clause-same
returns-then-changes_nothing-clause-same c =
    tests_stay c.args.self.now (c.if-changes_nothing.ensures refl) (conditions_of c.args.conditions.items)

pub returns-then-changes_nothing-clause-profiles : goal.returns-then-changes_nothing-clause-profiles
returns-then-changes_nothing-clause-profiles c =
    pairs_stay c.args.self.now (c.if-changes_nothing.ensures refl) (condition_profiles c.args.conditions.items)

pub loop-i-preserved : goal.loop-i-preserved
loop-i-preserved c =
    let count = changed_length (AreSidesRenamed c.args.self.now) c.loop-i.i c.args.conditions.items c.loop-i.made.items
    c.loop-i.invariant in
    let within : c.loop-i.i < length c.loop-i.made.items = omega (arith, count) in
    changed_more (AreSidesRenamed c.args.self.now) c.loop-i.i c.args.conditions.items c.loop-i.made.items _ c.index_mut.result.now
    c.change_sides.new.condition within c.index_mut.ensures.value refl
    (record { same = c.in_ok-change_sides.ensures.same; profiles = c.in_ok-change_sides.ensures.profiles }) c.loop-i.invariant

pub returns-clause-same : goal.returns-clause-same
returns-clause-same c =
    let count = changed_length (AreSidesRenamed c.args.self.now) c.loop-i.i c.args.conditions.items c.loop-i.made.items
    c.loop-i.invariant in
    let past : length c.loop-i.made.items ≤ c.loop-i.i = omega (arith, count) in
    changed_views (AreSidesRenamed c.args.self.now) condition_of (test_with (renaming_of c.args.self.now)) (λ old now h. h.same) c.loop-i.i
    c.args.conditions.items c.loop-i.made.items past c.loop-i.invariant

pub returns-clause-profiles : goal.returns-clause-profiles
returns-clause-profiles c =
    let count = changed_length (AreSidesRenamed c.args.self.now) c.loop-i.i c.args.conditions.items c.loop-i.made.items
    c.loop-i.invariant in
    let past : length c.loop-i.made.items ≤ c.loop-i.i = omega (arith, count) in
    changed_views (AreSidesRenamed c.args.self.now) condition_sides (pair_instance (profiled_renaming_of c.args.self.now))
    (λ old now h. h.profiles) c.loop-i.i c.args.conditions.items c.loop-i.made.items past c.loop-i.invariant
