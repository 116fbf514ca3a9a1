-- Where entries without variables lead, as the code steps.
use Rattle.std.proofs.Common.{◌≡◌, [], None, map, ap, sym, ◌∙◌, subst}
use Rattle.std.proofs.lemmas.Option.{none-some}
use Rattle.std.proofs.lemmas.Simd.{map-map}
use Rattle.lotos_base.specs.Canon.{IsCanon}
use Rattle.lotos_base.specs.Substitution.{substituted}
use Rattle.lotos_base.specs.Term.{Term}
use Rattle.lotos_base.specs.Equation.{Data}
use Rattle.behaviour_semantics.specs.Behaviour.{Behaviour}
use Rattle.behaviour_semantics.specs.Derives.{DerivesCanonically, leaves_in}
use Rattle.behaviour_semantics.specs.Fault.{fault_of}
use Rattle.behaviour_semantics.specs.FaultLaws.{FaultlessWhereKept}
use Rattle.behaviour_semantics.specs.Menu.{IsEntry, derivation_at}
use Rattle.behaviour_semantics.specs.Shape as plain_shape
use Rattle.behaviour_semantics.specs.Solving as solving
use Rattle.behaviour_semantics.specs.WellFormed.{AreOver}
use Rattle.behaviour_tree.specs.DefinitionView.{specification_of}
use Rattle.behaviour_tree.specs.MoveView.{derivation_of, label_of}
use Rattle.behaviour_tree.specs.StateView.{state_of}
use Rattle.behaviour_tree.specs.declared.definitions.Spec.{Spec}
use Rattle.behaviour_tree.specs.declared.moves.Derivation.{Derivation}
use Rattle.behaviour_tree.specs.declared.moves.Label.{Label}
use Rattle.behaviour_tree.specs.declared.states.State.{State}
use Rattle.certificate_theory.specs.AgreementLaws.{IsClosedEntryOf, ClosedEntriesAreEvents}
use Rattle.certificate_theory.specs.Certificate.{ComparedSide}
use Rattle.certificate_theory.specs.NamedStates.{EntryLeads}
use Rattle.certificate_theory.proofs.ClosedEntries.{leaves_stay}
use Rattle.menu_builder.specs.HandedOn.{canonical_derivation, plain_entry, Entry}
use Rattle.menu_builder.specs.Menus.{entries_in}
use Rattle.step_taker.specs.Taken.{IsStepFault, IsTaken, ground_of}
use Rattle.step_taker.specs.HandedOn.{StepFault}
use Rattle.bisim_check.specs.Surveys.{IsSideOf, IsSurveyed, side_over}
use Rattle.bisim_check.specs.declared.surveys.Surveyed.{Surveyed}

pub no_fault : (data_ : Data) (canon : Term → Term) (spec : Spec) (state : State) (derivation : Derivation) (fault : StepFault)
    → fault_of data_ canon (specification_of spec).processes (state_of state) (derivation_of derivation) ≡ None
    → IsStepFault (ground_of data_ canon spec) state derivation fault → ⊥
no_fault data_ canon spec state derivation fault free h = none-some h.first (sym free ∙ h.is)

-- a surveyed state is a closed behaviour of the specification
pub surveyed_over : (data_ : Data) (canon : Term → Term) (spec : Spec) (surveyed : Surveyed) → IsSideOf data_.signature spec
    → IsCanon data_ canon → IsSurveyed data_ canon spec surveyed
    → AreOver data_ canon (specification_of spec) (state_of surveyed.state)
surveyed_over data_ canon spec surveyed side is_canon h = record {
  signature = side.signature_;
  is_canon = is_canon;
  well_formed = side.over.well_formed;
  closed = h.state.over.closed;
}

pub closed_entry : (data_ : Data) (canon : Term → Term) (spec : Spec) (surveyed : Surveyed) (entry : Entry)
    → IsSideOf data_.signature spec → IsCanon data_ canon → IsSurveyed data_ canon spec surveyed
    → IsEntry (entries_in surveyed.menu) (plain_entry entry) → entry.vars.items ≡ []
    → IsClosedEntryOf (side_over data_ canon spec) (state_of surveyed.state) (plain_entry entry)
closed_entry data_ canon spec surveyed entry side is_canon h there closed = record {
  over = surveyed_over data_ canon spec surveyed side is_canon h;
  menu = entries_in surveyed.menu;
  exact = h.exact;
  there = there;
  closed = closed;
}

-- the derivation with canonical leaves is the one as the entry has it
pub own_derivation : ClosedEntriesAreEvents → (side : ComparedSide) (b : Behaviour) (entry : solving.Entry) → IsClosedEntryOf side b entry
    → canonical_derivation side.canon entry [] ≡ derivation_at entry []
own_derivation laws side b entry h =
    let stays : map (substituted (leaves_in [])) entry.leaves ≡ entry.leaves = leaves_stay entry in
    let leaves : map (λ (t : Term). side.canon (substituted (leaves_in []) t)) entry.leaves
    ≡ map (substituted (leaves_in [])) entry.leaves =
    sym (map-map side.canon (substituted (leaves_in [])) entry.leaves)
    ∙ (ap (map side.canon) stays ∙ (laws.leaves side b entry h ∙ sym stays)) in
    (λ i. record { shape = entry.shape; leaves = leaves i })

-- it has no fault
pub leads_freely : ClosedEntriesAreEvents → FaultlessWhereKept → (side : ComparedSide) (b : Behaviour) (entry : solving.Entry)
    → IsClosedEntryOf side b entry → (d : plain_shape.Derivation) → d ≡ canonical_derivation side.canon entry []
    → fault_of side.data_ side.canon side.specification.processes b d ≡ None
leads_freely laws faultless side b entry h d is =
    let there : (target : Behaviour) × EntryLeads side b entry target = laws.leads side b entry h in
    subst (λ (it : plain_shape.Derivation). fault_of side.data_ side.canon side.specification.processes b it ≡ None)
    (sym (is ∙ own_derivation laws side b entry h))
    (faultless.faultless side.data_ side.canon side.specification b h.over (derivation_at entry []) there.1.label there.0
    there.1.keeps)

-- and leads where the entry leads
pub leads_there : ClosedEntriesAreEvents → (data_ : Data) (canon : Term → Term) (spec : Spec) (state target : State) (entry : Entry)
    (derivation : Derivation) (label : Label)
    → IsClosedEntryOf (side_over data_ canon spec) (state_of state) (plain_entry entry)
    → derivation_of derivation ≡ canonical_derivation canon (plain_entry entry) []
    → IsTaken (ground_of data_ canon spec) state derivation label target
    → EntryLeads (side_over data_ canon spec) (state_of state) (plain_entry entry) (state_of target)
leads_there laws data_ canon spec state target entry derivation label h is taken = record {
  label = label_of label;
  keeps = subst (λ (it : plain_shape.Derivation). DerivesCanonically data_ canon (specification_of spec).processes (state_of state) it
      (label_of label) (state_of target)) (is ∙ own_derivation laws (side_over data_ canon spec) (state_of state) (plain_entry entry) h)
      taken.keeps;
}
