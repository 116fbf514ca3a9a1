use Rattle.std.proofs.Common.{◌<◌, ◌≤◌, length, refl, arith}
use Rattle.lotos_base.specs.Substitution.{substituted}
use Rattle.sort_terms.specs.SortedView.{profiled_in, term_in}
use Rattle.term_match.specs.ProfiledInstance.{profiled_instance}
use Rattle.behaviour_tree.specs.BehaviourTerms.{profiles_of}
use Rattle.behaviour_tree.specs.BehaviourView.{terms_of}
use Rattle.event_offers.specs.Renaming.{profiled_renaming_of, renaming_of}
use Rattle.event_offers.proofs.ChangedLemmas.{IsRenamed, profiles_stay, terms_stay}
use Rattle.event_offers.proofs.InPlace.{changed_length, changed_more, changed_views}
use Rattle.event_offers.proofs.renaming.Renaming.all_changed.Goals as goal

pub returns-then-changes_nothing-clause-same : goal.returns-then-changes_nothing-clause-same
returns-then-changes_nothing-clause-same c =
    terms_stay c.args.self.now (c.if-changes_nothing.ensures refl) (terms_of c.args.terms.items)

pub returns-then-changes_nothing-clause-profiles : goal.returns-then-changes_nothing-clause-profiles
returns-then-changes_nothing-clause-profiles c =
    profiles_stay c.args.self.now (c.if-changes_nothing.ensures refl) (profiles_of c.args.terms.items)

pub loop-i-preserved : goal.loop-i-preserved
loop-i-preserved c =
    let count = changed_length (IsRenamed c.args.self.now) c.loop-i.i c.args.terms.items c.loop-i.made.items c.loop-i.invariant in
    let within : c.loop-i.i < length c.loop-i.made.items = omega (arith, count) in
    changed_more (IsRenamed c.args.self.now) c.loop-i.i c.args.terms.items c.loop-i.made.items _ c.index_mut.result.now c.change.new.term
    within c.index_mut.ensures.value refl
    (record { same = c.in_ok-change.ensures.same; profiles = c.in_ok-change.ensures.profiles }) c.loop-i.invariant

pub returns-clause-same : goal.returns-clause-same
returns-clause-same c =
    let count = changed_length (IsRenamed c.args.self.now) c.loop-i.i c.args.terms.items c.loop-i.made.items c.loop-i.invariant in
    let past : length c.loop-i.made.items ≤ c.loop-i.i = omega (arith, count) in
    changed_views (IsRenamed c.args.self.now) term_in (substituted (renaming_of c.args.self.now)) (λ old now h. h.same) c.loop-i.i
    c.args.terms.items c.loop-i.made.items past c.loop-i.invariant

pub returns-clause-profiles : goal.returns-clause-profiles
returns-clause-profiles c =
    let count = changed_length (IsRenamed c.args.self.now) c.loop-i.i c.args.terms.items c.loop-i.made.items c.loop-i.invariant in
    let past : length c.loop-i.made.items ≤ c.loop-i.i = omega (arith, count) in
    changed_views (IsRenamed c.args.self.now) profiled_in (profiled_instance (profiled_renaming_of c.args.self.now))
    (λ old now h. h.profiles) c.loop-i.i c.args.terms.items c.loop-i.made.items past c.loop-i.invariant
