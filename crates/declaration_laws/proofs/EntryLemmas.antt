-- Entries of menus stay at the gates of a behaviour.
use Rattle.std.proofs.Common.{◌≡◌, ℕ, List, Option, None, Some, subst}
use Rattle.lotos_base.proofs.Options.{mapped}
use Rattle.lotos_base.specs.Term.{Term}
use Rattle.lotos_base.specs.Equation.{Data}
use Rattle.lotos_base.specs.Substitution.{Substitution}
use Rattle.behaviour_semantics.specs.Behaviour.{Behaviour, Process}
use Rattle.behaviour_semantics.specs.Draft.{Draft, draft_by, draft_of, first_apart, leaves_from, label_with, numbered_from_zero}
use Rattle.behaviour_semantics.specs.Label.{Label, inner_event, gate_event, exit_event}
use Rattle.behaviour_semantics.specs.Move.{Move, move_of}
use Rattle.behaviour_semantics.specs.Shape.{Shape}
use Rattle.behaviour_semantics.specs.Solving.{Entry, SolvesTo, unsolvable, settled, replacing, label_in}
use Rattle.behaviour_semantics.specs.WellFormed.{Every}
use Rattle.declaration_laws.specs.VisibleGates.{IsOneOf, IsAt, UsesOnly, UsesFormals}
use Rattle.declaration_laws.specs.EntryGates.{EntriesStayAtGates}
use Rattle.declaration_laws.proofs.GateLemmas.{label_stays}

module _ (IsGate : ℕ → Type 0) where
  -- terms are no gates
  with_terms : (values : Substitution) (label : Label) → IsAt IsGate label → IsAt IsGate (label_with values label)
  with_terms values inner_event is = tt
  with_terms values (gate_event g terms) is = is
  with_terms values (exit_event terms) is = tt

  in_form : (canon : Term → Term) (label : Label) → IsAt IsGate label → IsAt IsGate (label_in canon label)
  in_form canon inner_event is = tt
  in_form canon (gate_event g terms) is = is
  in_form canon (exit_event terms) is = tt

  abbrev OutcomeAt : Option Entry → Type 0
  OutcomeAt None = Unit {0}
  OutcomeAt (Some entry) = IsAt IsGate entry.label

  -- solving a draft leaves its gate
  solved_at : (canon : Term → Term) (draft : Draft) (outcome : Option Entry) → SolvesTo canon draft outcome → IsAt IsGate draft.label
      → OutcomeAt outcome
  solved_at canon draft _ (unsolvable _ closed) is = tt
  solved_at canon draft _ (settled _ no_closed none) is = with_terms _ _ (in_form canon draft.label is)
  solved_at canon draft outcome (replacing _ found _ no_closed some more) is =
      solved_at canon _ outcome more (with_terms _ _ (in_form canon draft.label is))

draft_at : (data_ : Data) (canon : Term → Term) (processes : List Process) (IsGate : ℕ → Type 0) (b : Behaviour) (shape : Shape)
    (draft : Draft) → Every (UsesFormals processes) processes → UsesOnly IsGate processes b
    → draft_of data_ canon processes shape b ≡ Some draft → IsAt IsGate draft.label
draft_at data_ canon processes IsGate b shape draft bodies uses is =
    let base : ℕ = first_apart processes b in
    let moves : Option Move =
    move_of (record { signature = data_.signature; represent = canon; processes = processes }) (leaves_from base) shape 0 b in
    let found : (m : Move) × (moves ≡ Some m) × (draft_by shape base m ≡ draft) = mapped (draft_by shape base) moves is in
    subst (λ (it : Draft). IsAt IsGate it.label) found.2
    (with_terms IsGate (numbered_from_zero base) found.0.label
    (label_stays (record { signature = data_.signature; represent = canon; processes = processes }) (leaves_from base) shape 0 b IsGate
    found.0 bodies uses found.1))

pub entries_stay_at_gates : EntriesStayAtGates
entries_stay_at_gates data_ canon processes gates b entries bodies uses exact entry listed =
    let solved = exact.solved entry listed in
    solved_at (IsOneOf gates) canon solved.0 (Some entry) solved.2
    (draft_at data_ canon processes (IsOneOf gates) b entry.shape solved.0 bodies uses solved.1)
