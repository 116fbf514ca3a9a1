-- The exact menu of a behaviour.
use Rattle.std.specs.Prelude.{◌≡◌, ◌<◌, ℕ, List, [], ◌∷◌, map, slice_get, Some}
use Rattle.lotos_base.specs.Term.{Term}
use Rattle.lotos_base.specs.Equation.{Data}
use Rattle.lotos_base.specs.Equality.{Equal}
use Rattle.lotos_base.specs.Substitution.{substituted}
use Rattle.behaviour_semantics.specs.Behaviour.{Behaviour, Process}
use Rattle.behaviour_semantics.specs.Label.{Label, inner_event, gate_event, exit_event}
use Rattle.behaviour_semantics.specs.Replacement.{test_with}
use Rattle.behaviour_semantics.specs.Rule.{AllHold, AreValues}
use Rattle.behaviour_semantics.specs.Shape.{Shape, Derivation, Before}
use Rattle.behaviour_semantics.specs.Derives.{Derives, leaves_in}
use Rattle.behaviour_semantics.specs.Draft.{Draft, draft_of, label_with, Fits}
use Rattle.behaviour_semantics.specs.Solving.{Entry, SolvesTo}

-- The terms of two lists are equal one by one: `AllEqual` for lists that are no arguments of an operation. These are
-- for values, which are ground; `AlikeTerms`, `AllAlike` and `AlikeLabels` are for terms with variables, and ask for
-- equality under all ground values. On ground values the two agree.
abbrev pub EqualTerms : Data → List Term → List Term → Type 0
EqualTerms data_ [] [] = Unit {0}
EqualTerms data_ (t ∷ ts) (u ∷ us) = Equal data_ t u × EqualTerms data_ ts us
EqualTerms data_ _ _ = ⊥

-- Two labels of one kind, at one gate, with equal values one by one.
abbrev pub EqualLabels : Data → Label → Label → Type 0
EqualLabels data_ inner_event inner_event = Unit {0}
EqualLabels data_ (gate_event g us) (gate_event h vs) = (g ≡ h) × EqualTerms data_ us vs
EqualLabels data_ (exit_event us) (exit_event vs) = EqualTerms data_ us vs
EqualLabels data_ _ _ = ⊥

-- The values are ground, one for each variable of the entry, of its sort, and meet the entry's conditions.
pub record Meets (data_ : Data) (entry : Entry) (values : List Term) : Type 0 where
  pub sorted : AreValues data_.signature entry.variables values
  pub met : AllHold data_ (map (test_with (leaves_in values)) entry.conditions)

-- The entry's label, and its derivation, with the values put in for its variables.
abbrev pub label_at : Entry → List Term → Label
label_at entry values = label_with (leaves_in values) entry.label

abbrev pub derivation_at : Entry → List Term → Derivation
derivation_at entry values = record { shape = entry.shape; leaves = map (substituted (leaves_in values)) entry.leaves }

-- The entry is one of the list.
abbrev pub IsEntry : List Entry → Entry → Type 0
IsEntry entries entry = (k : ℕ) × (slice_get entries k ≡ Some entry)

-- The shapes of the entries rise strictly: an earlier one comes before a later one.
abbrev pub Rise : List Entry → Type 0
Rise entries = (i j : ℕ) (e f : Entry) → i < j → slice_get entries i ≡ Some e → slice_get entries j ≡ Some f → Before e.shape f.shape

-- A derivation has its entry: one of its shape, with values that meet its conditions, so that leaves and label equal
-- those of the derivation. In particular the value of each variable equals the leaf that the variable stands for.
pub record HasEntry (data_ : Data) (entries : List Entry) (d : Derivation) (label : Label) : Type 0 where
  pub entry : Entry
  pub listed : IsEntry entries entry
  pub shape : entry.shape ≡ d.shape
  pub values : List Term
  pub meets : Meets data_ entry values
  pub leaves : EqualTerms data_ (derivation_at entry values).leaves d.leaves
  pub labels : EqualLabels data_ (label_at entry values) label

-- The list is the exact menu of the behaviour.
pub record Exact (data_ : Data) (canon : Term → Term) (processes : List Process) (b : Behaviour) (entries : List Entry) : Type 0 where
  -- the shapes rise strictly
  pub rising : Rise entries
  -- each shape fits the behaviour
  pub fitting : (entry : Entry) → IsEntry entries entry → Fits data_ canon processes b entry.shape
  -- values that meet an entry's conditions make it a derivation, with the entry's label
  pub sound :
      (entry : Entry) →
      IsEntry entries entry →
      (values : List Term) →
      Meets data_ entry values →
      (label : Label) × (target : Behaviour) × Derives data_ processes b (derivation_at entry values) label target
      × EqualLabels data_ (label_at entry values) label
  -- each derivation has its entry
  pub complete :
      (d : Derivation) (label : Label) (target : Behaviour) →
      Derives data_ processes b d label target →
      HasEntry data_ entries d label
  -- each entry is the solved form of its shape's draft
  pub solved :
      (entry : Entry) →
      IsEntry entries entry →
      (draft : Draft) × (draft_of data_ canon processes entry.shape b ≡ Some draft) × SolvesTo canon draft (Some entry)
  -- each shape that fits and whose draft has a solved form has its entry
  pub every_solved :
      (shape : Shape) (draft : Draft) (entry : Entry) →
      draft_of data_ canon processes shape b ≡ Some draft →
      SolvesTo canon draft (Some entry) →
      IsEntry entries entry
