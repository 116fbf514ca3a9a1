-- What solving obeys.
use Rattle.std.specs.Prelude.{◌≡◌, ◌≢◌, ◌<◌, ℕ, List, slice_get, Option, Some}
use Rattle.lotos_base.specs.Term.{Term, variable}
use Rattle.lotos_base.specs.Sorting.{IsGround, Occurs}
use Rattle.lotos_base.specs.Equation.{Data}
use Rattle.lotos_base.specs.Equality.{Equal}
use Rattle.behaviour_semantics.specs.Behaviour.{Behaviour, Test, Specification}
use Rattle.behaviour_semantics.specs.Rule.{label_values}
use Rattle.behaviour_semantics.specs.Shape.{Shape}
use Rattle.behaviour_semantics.specs.Derives.{leaves_in}
use Rattle.behaviour_semantics.specs.Draft.{Draft, draft_of}
use Rattle.behaviour_semantics.specs.Solving.{Entry, SolvesTo}
use Rattle.behaviour_semantics.specs.Menu.{EqualTerms, derivation_at}
use Rattle.behaviour_semantics.specs.WellFormed.{Every, AreOver}

-- a draft has one outcome at most
abbrev pub OutcomesAreDetermined : Type 0
OutcomesAreDetermined =
    (canon : Term → Term) (draft : Draft) (outcome other : Option Entry) →
    SolvesTo canon draft outcome →
    SolvesTo canon draft other →
    outcome ≡ other

-- The term is in canonical form.
abbrev pub IsCanonical : (Term → Term) → Term → Type 0
IsCanonical canon t = canon t ≡ t

-- A condition on which no step is left to do: its sides are canonical and differ, one has a variable, and a bare
-- variable on one side occurs on the other side too.
pub record IsOpen (canon : Term → Term) (test : Test) : Type 0 where
  pub canonical_left : IsCanonical canon test.left
  pub canonical_right : IsCanonical canon test.right
  pub differ : test.left ≢ test.right
  pub not_closed : IsGround test.left → IsGround test.right → ⊥
  pub left_occurs : (n s : ℕ) → test.left ≡ variable n s → Occurs n s test.right
  pub right_occurs : (n s : ℕ) → test.right ≡ variable n s → Occurs n s test.left

-- Each variable of the term is one of the entry's variables, with the sort that stands there.
abbrev pub IsTermOver : List ℕ → Term → Type 0
IsTermOver variables t = (n s : ℕ) → Occurs n s t → slice_get variables n ≡ Some s

-- The variables stand at leaves of their own, in order: the places of these leaves rise, and the leaf at the place of a
-- variable is that variable.
pub record StandAtLeaves (variables : List ℕ) (leaves : List Term) (places : List ℕ) : Type 0 where
  pub rising : (j k m n : ℕ) → j < k → slice_get places j ≡ Some m → slice_get places k ≡ Some n → m < n
  pub leaf :
      (k s : ℕ) →
      slice_get variables k ≡ Some s →
      (n : ℕ) × (slice_get places k ≡ Some n) × (slice_get leaves n ≡ Some (variable k s))

-- The entry is solved: its terms are canonical, its conditions are open, and its variables are numbered in the order of
-- their own leaves and are all that occur.
pub record IsSolved (canon : Term → Term) (entry : Entry) : Type 0 where
  pub values : Every (IsCanonical canon) (label_values entry.label)
  pub leaves : Every (IsCanonical canon) entry.leaves
  pub conditions : Every (IsOpen canon) entry.conditions
  pub over_values : Every (IsTermOver entry.variables) (label_values entry.label)
  pub over_leaves : Every (IsTermOver entry.variables) entry.leaves
  pub over_left : Every (λ (test : Test). IsTermOver entry.variables test.left) entry.conditions
  pub over_right : Every (λ (test : Test). IsTermOver entry.variables test.right) entry.conditions
  pub places : List ℕ
  pub own : StandAtLeaves entry.variables entry.leaves places

-- the entry of the draft of a shape is solved; and where its leaves with values put in equal those of a derivation, the
-- value of each variable equals the derivation's leaf at the place of that variable
pub record EntriesAreSolved : Type 0 where
  pub solved :
      (data_ : Data) (canon : Term → Term) (specification : Specification) (b : Behaviour) →
      AreOver data_ canon specification b →
      (shape : Shape) (draft : Draft) (entry : Entry) →
      draft_of data_ canon specification.processes shape b ≡ Some draft →
      SolvesTo canon draft (Some entry) →
      IsSolved canon entry
  pub own_values :
      (data_ : Data) (entry : Entry) (places : List ℕ) (values leaves : List Term) →
      StandAtLeaves entry.variables entry.leaves places →
      EqualTerms data_ (derivation_at entry values).leaves leaves →
      (k n s : ℕ) →
      slice_get entry.variables k ≡ Some s →
      slice_get places k ≡ Some n →
      Equal data_ (leaves_in values k s) (leaves_in leaves n s)
