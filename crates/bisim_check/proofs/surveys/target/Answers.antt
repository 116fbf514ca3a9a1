use Rattle.std.proofs.Common.{◌≡◌, List, [], ℕ, None, sym, subst}
use Rattle.lotos_base.specs.Equation.{Data}
use Rattle.lotos_base.specs.Term.{Term}
use Rattle.behaviour_semantics.specs.Fault.{fault_of}
use Rattle.behaviour_semantics.specs.Rule.{AreValues}
use Rattle.behaviour_tree.specs.BehaviourTerms.{profiles_of}
use Rattle.behaviour_tree.specs.DefinitionView.{specification_of}
use Rattle.behaviour_tree.specs.MoveView.{derivation_of}
use Rattle.behaviour_tree.specs.Over.{AreTermsOf}
use Rattle.behaviour_tree.specs.StateView.{state_of}
use Rattle.menu_builder.specs.HandedOn.{plain_entry}
use Rattle.menu_builder.proofs.HandedOn.{held_before, holds_after}
use Rattle.step_taker.specs.Taken.{IsTaken, ground_of}
use Rattle.bisim_check.specs.Surveys.{IsSideOf, IsStateIn, side_over}
use Rattle.bisim_check.proofs.TargetLemmas.{closed_entry, leads_freely, leads_there}
use Rattle.bisim_check.proofs.surveys.target.Goals as goal

pub derivation-requires-clause-values : goal.derivation-requires-clause-values
derivation-requires-clause-values g c = record {
  sorted = subst (λ (sorts : List ℕ). AreValues (g.D.Deciding.known_data c.args.data.now).signature sorts []) (sym c.requires.closed) tt;
  terms = tt;
}

pub moved-requires-clause-side : goal.moved-requires-clause-side
moved-requires-clause-side g c =
    holds_after (λ (d : Data) (k : Term → Term). IsSideOf d.signature c.args.spec.now) c.in_ok-derivation.ensures.same_known
    c.requires.side

pub moved-requires-clause-state : goal.moved-requires-clause-state
moved-requires-clause-state g c =
    holds_after (λ (d : Data) (k : Term → Term). IsStateIn d.signature c.args.spec.now c.args.surveyed.now.state)
    c.in_ok-derivation.ensures.same_known c.requires.surveyed.state

pub moved-requires-clause-leaves : goal.moved-requires-clause-leaves
moved-requires-clause-leaves g c =
    holds_after (λ (d : Data) (k : Term → Term). AreTermsOf d.signature (profiles_of c.in_ok-derivation.derivation.leaves.items))
    c.in_ok-derivation.ensures.same_known c.in_ok-derivation.ensures.is_of

pub moved-requires-clause-free : goal.moved-requires-clause-free
moved-requires-clause-free g c =
    let known = g.D.Deciding.known_data c.args.data.now in
    let canon = g.D.Deciding.canon c.args.data.now in
    let spec = c.args.spec.now in
    let surveyed = c.args.surveyed.now in
    let entry = c.args.entry.now in
    holds_after (λ (d : Data) (k : Term → Term). fault_of d k (specification_of spec).processes (state_of surveyed.state)
    (derivation_of c.in_ok-derivation.derivation) ≡ None) c.in_ok-derivation.ensures.same_known
    (leads_freely c.closed_entries_are_events.ensures c.faultless_where_kept.ensures (side_over known canon spec)
    (state_of surveyed.state) (plain_entry entry)
    (closed_entry known canon spec surveyed entry c.requires.side (g.met.D.Deciding.is_canon c.args.data.now) c.requires.surveyed
    c.requires.there c.requires.closed) (derivation_of c.in_ok-derivation.derivation) c.in_ok-derivation.ensures.same)

pub returns-clause-leads : goal.returns-clause-leads
returns-clause-leads g c =
    let known = g.D.Deciding.known_data c.args.data.now in
    let canon = g.D.Deciding.canon c.args.data.now in
    let spec = c.args.spec.now in
    let surveyed = c.args.surveyed.now in
    let entry = c.args.entry.now in
    leads_there c.closed_entries_are_events.ensures known canon spec surveyed.state c.in_ok-taken.taken.1 entry
    c.in_ok-derivation.derivation c.in_ok-taken.taken.0
    (closed_entry known canon spec surveyed entry c.requires.side (g.met.D.Deciding.is_canon c.args.data.now) c.requires.surveyed
    c.requires.there c.requires.closed) c.in_ok-derivation.ensures.same
    (held_before (λ (d : Data) (k : Term → Term). IsTaken (ground_of d k spec) surveyed.state c.in_ok-derivation.derivation
    c.in_ok-taken.taken.0 c.in_ok-taken.taken.1) c.in_ok-derivation.ensures.same_known c.in_ok-taken.ensures.answer)

pub returns-clause-state : goal.returns-clause-state
returns-clause-state g c =
    let taken = held_before (λ (d : Data) (k : Term → Term). IsTaken (ground_of d k c.args.spec.now) c.args.surveyed.now.state
    c.in_ok-derivation.derivation c.in_ok-taken.taken.0 c.in_ok-taken.taken.1) c.in_ok-derivation.ensures.same_known
    c.in_ok-taken.ensures.answer in
    record { over = taken.over; closed = taken.closed }
