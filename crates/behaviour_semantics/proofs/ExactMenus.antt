-- A list of solved drafts, whose shapes rise and fit, is the exact menu.
use Rattle.std.proofs.Common.{◌≡◌, List, Option, None, Some, sym, ◌∙◌, subst}
use Rattle.lotos_base.specs.Term.{Term}
use Rattle.lotos_base.specs.Equation.{Data}
use Rattle.behaviour_semantics.specs.Behaviour.{Behaviour, Specification}
use Rattle.behaviour_semantics.specs.Label.{Label}
use Rattle.behaviour_semantics.specs.Shape.{Shape, Derivation}
use Rattle.behaviour_semantics.specs.Derives.{Derives}
use Rattle.behaviour_semantics.specs.Draft.{Draft, draft_of}
use Rattle.behaviour_semantics.specs.Solving.{Entry, SolvesTo}
use Rattle.behaviour_semantics.specs.Menu.{EqualLabels, Meets, label_at, derivation_at, IsEntry, HasEntry, Exact}
use Rattle.behaviour_semantics.specs.WellFormed.{AreOver}
use Rattle.behaviour_semantics.specs.DraftOrder.{LeavesMeet, label_from}
use Rattle.behaviour_semantics.specs.DraftOrderLaws.{ValuesFor}
use Rattle.behaviour_semantics.specs.InstanceLaws.{Instance, DraftOf}
use Rattle.behaviour_semantics.specs.MenuLaws.{IsSolvedMenu}
use Rattle.behaviour_semantics.proofs.DraftLemmas.{sound_law, complete_law}
use Rattle.behaviour_semantics.proofs.DraftFineness.{FineDraft, fine_draft, shape_of_draft, meets_leaves, leaves_meets, label_by_number}
use Rattle.behaviour_semantics.proofs.SolvedValues.{equal_labels_then}
use Rattle.behaviour_semantics.proofs.SolvingAnyDraft.{solving_any}

-- Values that meet an entry make it a derivation.
sound : (data_ : Data) (canon : Term → Term) (specification : Specification) (b : Behaviour) (entries : List Entry)
    → AreOver data_ canon specification b → IsSolvedMenu data_ canon specification.processes b entries → (entry : Entry)
    → IsEntry entries entry → (values : List Term) → Meets data_ entry values → (label : Label) × (target : Behaviour)
    × Derives data_ specification.processes b (derivation_at entry values) label target × EqualLabels data_ (label_at entry values) label
sound data_ canon specification b entries over menu entry listed values meets =
    let solved : (draft : Draft) × (draft_of data_ canon specification.processes entry.shape b ≡ Some draft)
    × SolvesTo canon draft (Some entry) = menu.solved entry listed in
    let draft : Draft = solved.0 in
    let f : FineDraft data_ draft = fine_draft data_ canon specification b over entry.shape draft solved.1 in
    let s : LeavesMeet data_ draft (derivation_at entry values).leaves
    × EqualLabels data_ (label_at entry values) (label_from draft (derivation_at entry values).leaves) =
    solving_any.sound data_ canon draft entry values over.is_canon f.order solved.2 meets in
    let i : Instance data_ specification.processes b draft (derivation_at entry values).leaves =
    sound_law data_ canon specification b over entry.shape draft (derivation_at entry values).leaves solved.1
    (leaves_meets data_ draft f _ s.0) in
    let shape : entry.shape ≡ draft.shape = (solving_any.solved data_ canon draft entry over.is_canon f.order solved.2).shape in (
      i.label,
      i.target,
      subst (λ (shape : Shape). Derives data_ specification.processes b
          (record { shape = shape; leaves = (derivation_at entry values).leaves }) i.label i.target) (sym shape) i.derives,
      equal_labels_then data_ _ _ _ s.1 (equal_labels_then data_ _ _ _
          (label_by_number data_ draft f (derivation_at entry values).leaves s.0) i.labels),
    )

-- The entry of a draft's outcome, and no outcome without an entry where leaves meet the draft.
entry_for : (data_ : Data) (canon : Term → Term) (specification : Specification) (b : Behaviour) (entries : List Entry)
    → (over : AreOver data_ canon specification b) → IsSolvedMenu data_ canon specification.processes b entries
    → (d : Derivation) (label : Label) (found : DraftOf data_ canon specification.processes b d label) (f : FineDraft data_ found.draft)
    (outcome : Option Entry) → SolvesTo canon found.draft outcome → HasEntry data_ entries d label
entry_for data_ canon specification b entries over menu d label found f None solves =
    absurd (solving_any.nothing data_ canon found.draft d.leaves over.is_canon f.order solves
    (meets_leaves data_ found.draft f d.leaves found.meets))
entry_for data_ canon specification b entries over menu d label found f (Some entry) solves =
    let meets : LeavesMeet data_ found.draft d.leaves = meets_leaves data_ found.draft f d.leaves found.meets in
    let c : ValuesFor data_ found.draft entry d.leaves = solving_any.complete data_ canon found.draft entry d.leaves over.is_canon
    f.order solves meets in
    record {
      entry = entry;
      listed = menu.every_solved d.shape found.draft entry found.is_draft solves;
      shape = (solving_any.solved data_ canon found.draft entry over.is_canon f.order solves).shape
          ∙ shape_of_draft data_ canon specification.processes d.shape b found.draft found.is_draft;
      values = c.values;
      meets = c.meets;
      leaves = c.leaves_equal;
      labels = equal_labels_then data_ _ _ _ c.labels_equal (equal_labels_then data_ _ _ _
          (label_by_number data_ found.draft f d.leaves meets) found.labels);
    }

complete : (data_ : Data) (canon : Term → Term) (specification : Specification) (b : Behaviour) (entries : List Entry)
    → AreOver data_ canon specification b → IsSolvedMenu data_ canon specification.processes b entries
    → (d : Derivation) (label : Label) (target : Behaviour) → Derives data_ specification.processes b d label target
    → HasEntry data_ entries d label
complete data_ canon specification b entries over menu d label target derives =
    let found : DraftOf data_ canon specification.processes b d label =
    complete_law data_ canon specification b over d label target derives in
    let f : FineDraft data_ found.draft = fine_draft data_ canon specification b over d.shape found.draft found.is_draft in
    let o = solving_any.outcome data_ canon found.draft over.is_canon f.order in
    entry_for data_ canon specification b entries over menu d label found f o.0 o.1

pub exact_menu : (data_ : Data) (canon : Term → Term) (specification : Specification) (b : Behaviour) (entries : List Entry)
    → AreOver data_ canon specification b → IsSolvedMenu data_ canon specification.processes b entries
    → Exact data_ canon specification.processes b entries
exact_menu data_ canon specification b entries over menu = record {
  rising = menu.rising;
  fitting = menu.fitting;
  sound = sound data_ canon specification b entries over menu;
  complete = complete data_ canon specification b entries over menu;
  solved = menu.solved;
  every_solved = menu.every_solved;
}
