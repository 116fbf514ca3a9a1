-- What makes a list of solved drafts the exact menu.
use Rattle.std.specs.Prelude.{◌≡◌, ℕ, List, Option, None, Some, slice_get}
use Rattle.lotos_base.specs.Term.{Term}
use Rattle.lotos_base.specs.Equation.{Data}
use Rattle.lotos_base.specs.Equality.{Equal}
use Rattle.behaviour_semantics.specs.Behaviour.{Behaviour, Process, Specification}
use Rattle.behaviour_semantics.specs.Derives.{leaves_in}
use Rattle.behaviour_semantics.specs.Label.{Label}
use Rattle.behaviour_semantics.specs.Shape.{Shape, Derivation}
use Rattle.behaviour_semantics.specs.Draft.{Draft, draft_of, label_with, Fits, MeetsDraft}
use Rattle.behaviour_semantics.specs.Solving.{Entry, SolvesTo}
use Rattle.behaviour_semantics.specs.Menu.{EqualTerms, EqualLabels, Meets, label_at, derivation_at, IsEntry, HasEntry, Rise, Exact}
use Rattle.behaviour_semantics.specs.SolvingLaws.{StandAtLeaves}
use Rattle.behaviour_semantics.specs.WellFormed.{AreOver}

-- The list is made as a menu is: its shapes rise and fit, and it has the solved form of each draft that has one, and
-- nothing else.
pub record IsSolvedMenu (data_ : Data) (canon : Term → Term) (processes : List Process) (b : Behaviour) (entries : List Entry) : Type
    0 where
  pub rising : Rise entries
  pub fitting : (entry : Entry) → IsEntry entries entry → Fits data_ canon processes b entry.shape
  pub solved :
      (entry : Entry) →
      IsEntry entries entry →
      (draft : Draft) × (draft_of data_ canon processes entry.shape b ≡ Some draft) × SolvesTo canon draft (Some entry)
  pub every_solved :
      (shape : Shape) (draft : Draft) (entry : Entry) →
      draft_of data_ canon processes shape b ≡ Some draft →
      SolvesTo canon draft (Some entry) →
      IsEntry entries entry

-- such a list is the exact menu
abbrev pub SolvedMenusAreExact : Type 0
SolvedMenusAreExact =
    (data_ : Data) (canon : Term → Term) (specification : Specification) (b : Behaviour) (entries : List Entry) →
    AreOver data_ canon specification b →
    IsSolvedMenu data_ canon specification.processes b entries →
    Exact data_ canon specification.processes b entries

-- Solving the draft of a shape loses no values and adds none.
pub record SolvingKeepsTheValues : Type 0 where
  -- each draft has an outcome
  pub outcome :
      (data_ : Data) (canon : Term → Term) (specification : Specification) (b : Behaviour) →
      AreOver data_ canon specification b →
      (shape : Shape) (draft : Draft) →
      draft_of data_ canon specification.processes shape b ≡ Some draft →
      (outcome : Option Entry) × SolvesTo canon draft outcome
  -- where there is no entry, no ground leaves meet the draft
  pub nothing :
      (data_ : Data) (canon : Term → Term) (specification : Specification) (b : Behaviour) →
      AreOver data_ canon specification b →
      (shape : Shape) (draft : Draft) →
      draft_of data_ canon specification.processes shape b ≡ Some draft →
      SolvesTo canon draft None →
      (leaves : List Term) →
      MeetsDraft data_ draft leaves →
      ⊥
  -- values that meet the entry give leaves that meet the draft, with an equal label
  pub sound :
      (data_ : Data) (canon : Term → Term) (specification : Specification) (b : Behaviour) →
      AreOver data_ canon specification b →
      (shape : Shape) (draft : Draft) (entry : Entry) →
      draft_of data_ canon specification.processes shape b ≡ Some draft →
      SolvesTo canon draft (Some entry) →
      (values : List Term) →
      Meets data_ entry values →
      MeetsDraft data_ draft (derivation_at entry values).leaves
      × EqualLabels data_ (label_at entry values) (label_with (leaves_in (derivation_at entry values).leaves) draft.label)
  -- leaves that meet the draft come from values that meet the entry, up to equality, with an equal label
  pub complete :
      (data_ : Data) (canon : Term → Term) (specification : Specification) (b : Behaviour) →
      AreOver data_ canon specification b →
      (shape : Shape) (draft : Draft) (entry : Entry) →
      draft_of data_ canon specification.processes shape b ≡ Some draft →
      SolvesTo canon draft (Some entry) →
      (leaves : List Term) →
      MeetsDraft data_ draft leaves →
      (values : List Term) × Meets data_ entry values × EqualTerms data_ (derivation_at entry values).leaves leaves
      × EqualLabels data_ (label_at entry values) (label_with (leaves_in leaves) draft.label)

-- Each variable of the entry stands at a leaf of its own, in order, and its value is equal to the derivation's value at
-- that leaf.
pub record HasOwnValues (data_ : Data) (entry : Entry) (values : List Term) (d : Derivation) : Type 0 where
  pub places : List ℕ
  pub own : StandAtLeaves entry.variables entry.leaves places
  pub equal :
      (k n s : ℕ) →
      slice_get entry.variables k ≡ Some s →
      slice_get places k ≡ Some n →
      Equal data_ (leaves_in values k s) (leaves_in d.leaves n s)

-- in an exact menu, the values that a derivation gives its entry are equal to its own leaves
abbrev pub ExactMenusGiveOwnValues : Type 0
ExactMenusGiveOwnValues =
    (data_ : Data) (canon : Term → Term) (specification : Specification) (b : Behaviour) (entries : List Entry) →
    AreOver data_ canon specification b →
    Exact data_ canon specification.processes b entries →
    (d : Derivation) (label : Label) (found : HasEntry data_ entries d label) →
    HasOwnValues data_ found.entry found.values d
