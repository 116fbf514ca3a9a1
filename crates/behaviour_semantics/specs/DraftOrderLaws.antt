-- What solving obeys on any draft in order, whatever behaviour it comes from.
use Rattle.std.specs.Prelude.{◌≡◌, ◌<◌, ◌↔◌, ℕ, List, slice_get, map, Option, None, Some}
use Rattle.lotos_base.specs.Signature.{Signature, IsSort}
use Rattle.lotos_base.specs.Term.{Term, variable}
use Rattle.lotos_base.specs.Sorting.{IsGroundOf}
use Rattle.lotos_base.specs.Equation.{Data}
use Rattle.lotos_base.specs.Equality.{Equal}
use Rattle.lotos_base.specs.Substitution.{Substitution, substituted}
use Rattle.lotos_base.specs.Canon.{IsCanon}
use Rattle.behaviour_semantics.specs.Behaviour.{Test}
use Rattle.behaviour_semantics.specs.Replacement.{test_with}
use Rattle.behaviour_semantics.specs.Rule.{AllHold, label_values}
use Rattle.behaviour_semantics.specs.Derives.{leaves_in}
use Rattle.behaviour_semantics.specs.Draft.{Draft}
use Rattle.behaviour_semantics.specs.Solving.{Entry, SolvesTo}
use Rattle.behaviour_semantics.specs.SolvingLaws.{IsCanonical, IsOpen, IsTermOver}
use Rattle.behaviour_semantics.specs.Menu.{EqualTerms, EqualLabels, Meets, label_at, derivation_at}
use Rattle.behaviour_semantics.specs.WellFormed.{Every}
use Rattle.behaviour_semantics.specs.DraftOrder.{IsLeaf, IsInOrder, as_draft, AreGroundLeaves, LeavesMeet, label_from}

-- The variables of an entry are those of the draft that have these numbers there, in order: the numbers rise, each is
-- that of a variable among the draft's leaves, and the variable stays at each leaf that it was.
pub record StandWhereTheyStood (before : List Term) (variables : List ℕ) (leaves : List Term) (numbers : List ℕ) : Type 0 where
  pub rising : (j k m n : ℕ) → j < k → slice_get numbers j ≡ Some m → slice_get numbers k ≡ Some n → m < n
  pub number : (k s : ℕ) → slice_get variables k ≡ Some s → (n : ℕ) × (slice_get numbers k ≡ Some n) × IsLeaf before n s
  pub leaf :
      (k s n i : ℕ) →
      slice_get variables k ≡ Some s →
      slice_get numbers k ≡ Some n →
      slice_get before i ≡ Some (variable n s) →
      slice_get leaves i ≡ Some (variable k s)

-- The entry is what solving leaves of the draft: it is canonical, its conditions are open, its variables have sorts of
-- the signature and are all that occur, each with its sort, and it is in order again when it is read as a draft.
pub record IsSolvedFrom (signature : Signature) (canon : Term → Term) (draft : Draft) (entry : Entry) : Type 0 where
  pub shape : entry.shape ≡ draft.shape
  pub values : Every (IsCanonical canon) (label_values entry.label)
  pub leaves : Every (IsCanonical canon) entry.leaves
  pub conditions : Every (IsOpen canon) entry.conditions
  pub sorts : Every (IsSort signature) entry.variables
  pub over_values : Every (IsTermOver entry.variables) (label_values entry.label)
  pub over_leaves : Every (IsTermOver entry.variables) entry.leaves
  pub over_left : Every (λ (test : Test). IsTermOver entry.variables test.left) entry.conditions
  pub over_right : Every (λ (test : Test). IsTermOver entry.variables test.right) entry.conditions
  pub as_draft : IsInOrder signature (as_draft entry)
  pub numbers : List ℕ
  pub stand : StandWhereTheyStood draft.leaves entry.variables entry.leaves numbers

-- Values that meet an entry, for ground leaves that meet its draft: the leaves are equal, so are the labels, and each
-- variable's value is equal to each leaf where it stands.
pub record ValuesFor (data_ : Data) (draft : Draft) (entry : Entry) (leaves : List Term) : Type 0 where
  pub values : List Term
  pub meets : Meets data_ entry values
  pub leaves_equal : EqualTerms data_ (derivation_at entry values).leaves leaves
  pub labels_equal : EqualLabels data_ (label_at entry values) (label_from draft leaves)
  pub own_values : (k s i : ℕ) → slice_get entry.leaves i ≡ Some (variable k s) → Equal data_ (leaves_in values k s) (leaves_in leaves i s)

-- Solving a draft in order, over data with a canon.
pub record SolvingNamesNoBehaviour : Type 0 where
  -- it has an outcome, and one alone
  pub outcome :
      (data_ : Data) (canon : Term → Term) (draft : Draft) →
      IsCanon data_ canon →
      IsInOrder data_.signature draft →
      (outcome : Option Entry) × SolvesTo canon draft outcome × ((other : Option Entry) → SolvesTo canon draft other → other ≡ outcome)
  -- where the outcome is nothing, no ground leaves meet the draft
  pub nothing :
      (data_ : Data) (canon : Term → Term) (draft : Draft) (leaves : List Term) →
      IsCanon data_ canon →
      IsInOrder data_.signature draft →
      SolvesTo canon draft None →
      LeavesMeet data_ draft leaves →
      ⊥
  -- values that meet the entry give leaves that meet the draft, with equal labels
  pub sound :
      (data_ : Data) (canon : Term → Term) (draft : Draft) (entry : Entry) (values : List Term) →
      IsCanon data_ canon →
      IsInOrder data_.signature draft →
      SolvesTo canon draft (Some entry) →
      Meets data_ entry values →
      LeavesMeet data_ draft (derivation_at entry values).leaves
      × EqualLabels data_ (label_at entry values) (label_from draft (derivation_at entry values).leaves)
  -- leaves that meet the draft have values that meet the entry
  pub complete :
      (data_ : Data) (canon : Term → Term) (draft : Draft) (entry : Entry) (leaves : List Term) →
      IsCanon data_ canon →
      IsInOrder data_.signature draft →
      SolvesTo canon draft (Some entry) →
      LeavesMeet data_ draft leaves →
      ValuesFor data_ draft entry leaves
  -- the entry is solved, and in order as an entry and as a draft
  pub solved :
      (data_ : Data) (canon : Term → Term) (draft : Draft) (entry : Entry) →
      IsCanon data_ canon →
      IsInOrder data_.signature draft →
      SolvesTo canon draft (Some entry) →
      IsSolvedFrom data_.signature canon draft entry

-- Ground leaves meet a draft in order exactly where some ground values for its variables make its leaves equal to them
-- and its conditions hold: the first leaf that is a variable tells its value as well as any other.
pub record MakeTheLeaves (data_ : Data) (draft : Draft) (leaves : List Term) : Type 0 where
  pub values : Substitution
  pub grounds : (n s : ℕ) → IsLeaf draft.leaves n s → IsGroundOf data_.signature s (values n s)
  pub ground : AreGroundLeaves data_.signature draft.leaves leaves
  pub agree : EqualTerms data_ (map (substituted values) draft.leaves) leaves
  pub met : AllHold data_ (map (test_with values) draft.conditions)

abbrev pub AnyValuesWillDo : Type 0
AnyValuesWillDo =
    (data_ : Data) (draft : Draft) (leaves : List Term) →
    IsInOrder data_.signature draft →
    LeavesMeet data_ draft leaves ↔ MakeTheLeaves data_ draft leaves
