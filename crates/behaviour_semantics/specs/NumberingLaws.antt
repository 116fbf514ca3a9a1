-- Where the leaves of moves and drafts are numbered from makes no difference.
use Rattle.std.specs.Prelude.{◌≡◌, ◌<◌, ◌≤◌, ◌+◌, ℕ, List, [], ◌∷◌, length, Option, None, option_map, option_and_then, if◌then◌else◌}
use Rattle.lotos_base.specs.Signature.{Signature}
use Rattle.lotos_base.specs.Term.{Term}
use Rattle.lotos_base.specs.Sorting.{HasSort, Occurs}
use Rattle.lotos_base.specs.Equation.{Data, Variable}
use Rattle.lotos_base.specs.Canon.{IsCanon}
use Rattle.behaviour_semantics.specs.Behaviour.{Behaviour, parallel, SynchronisationSet, Process, Specification}
use Rattle.behaviour_semantics.specs.Replacement.{with_values, binding_of}
use Rattle.behaviour_semantics.specs.Shape.{Shape, both_sides}
use Rattle.behaviour_semantics.specs.Move.{Move, move_of}
use Rattle.behaviour_semantics.specs.Draft.{Draft, draft_of, draft_by, leaves_from, first_apart, above_variables}
use Rattle.behaviour_semantics.specs.Join.{move_with, raised_from, join_of_drafts, meets_with}
use Rattle.behaviour_semantics.specs.WellFormed.{AreBinders, IsBehaviour, IsSpecification, AreOver}

-- The move of a shape with variables for its leaves: the leaf with number `k` is the variable `base + k`, and the first
-- leaf has the number `next`.
abbrev pub open_move : Data → (Term → Term) → List Process → ℕ → Shape → ℕ → Behaviour → Option Move
open_move data_ canon processes base shape next b =
    move_of (record { signature = data_.signature; represent = canon; processes = processes }) (leaves_from base) shape next b

-- The draft of both sides of a parallel, from the drafts of the sides.
abbrev pub joined_at : Data → SynchronisationSet → Draft → Draft → Option Draft
joined_at data_ meet left right = if meets_with meet left.label then join_of_drafts data_.signature left right else None

-- The term has the sort, and its variables are leaves with numbers from `base` on and below a limit.
pub record IsOverLeaves (signature : Signature) (base limit sort : ℕ) (term : Term) : Type 0 where
  pub sorted : HasSort signature term sort
  pub leaves : (n s : ℕ) → Occurs n s term → (base ≤ n) × (n < limit)

-- The terms are so, one by one, with the sorts of the variables.
abbrev pub AreOverLeaves : Signature → ℕ → ℕ → List Variable → List Term → Type 0
AreOverLeaves signature base limit [] [] = Unit {0}
AreOverLeaves signature base limit (x ∷ variables) (t ∷ terms) =
    IsOverLeaves signature base limit x.sort t × AreOverLeaves signature base limit variables terms
AreOverLeaves signature base limit _ _ = ⊥

-- variables for leaves with higher numbers, from a later variable or from a later leaf on, give the same move with higher
-- numbers; each number behind all bound ones gives the same draft; and the draft of both sides of a parallel is the join of
-- the drafts of the two sides
pub record NumberingMakesNoDifference : Type 0 where
  pub from_a_later_variable :
      (data_ : Data) (canon : Term → Term) (specification : Specification) (b : Behaviour) →
      AreOver data_ canon specification b →
      (base shift : ℕ) (shape : Shape) (next : ℕ) →
      first_apart specification.processes b ≤ base →
      open_move data_ canon specification.processes (base + shift) shape next b
      ≡ option_map (move_with (raised_from base shift)) (open_move data_ canon specification.processes base shape next b)
  pub from_a_later_leaf :
      (data_ : Data) (canon : Term → Term) (specification : Specification) (b : Behaviour) →
      AreOver data_ canon specification b →
      (base shift : ℕ) (shape : Shape) (next : ℕ) →
      first_apart specification.processes b ≤ base →
      open_move data_ canon specification.processes base shape (next + shift) b
      ≡ option_map (move_with (raised_from base shift)) (open_move data_ canon specification.processes base shape next b)
  -- the same inside a behaviour, where the variables in scope have got terms over earlier leaves: these stay
  pub inside :
      (data_ : Data) (canon : Term → Term) (specification : Specification) (variables : List Variable) (terms : List Term) (b : Behaviour) →
      IsCanon data_ canon →
      IsSpecification data_.signature specification →
      AreBinders data_.signature variables →
      IsBehaviour data_.signature (length specification.gate_names) specification.processes variables b →
      (base shift : ℕ) (shape : Shape) (next : ℕ) →
      first_apart specification.processes b ≤ base →
      above_variables variables ≤ base →
      AreOverLeaves data_.signature base (base + next) variables terms →
      open_move data_ canon specification.processes base shape (next + shift) (with_values (binding_of variables terms) b)
      ≡ option_map (move_with (raised_from (base + next) shift))
      (open_move data_ canon specification.processes base shape next (with_values (binding_of variables terms) b))
  pub drafts :
      (data_ : Data) (canon : Term → Term) (specification : Specification) (b : Behaviour) →
      AreOver data_ canon specification b →
      (base : ℕ) (shape : Shape) →
      first_apart specification.processes b ≤ base →
      draft_of data_ canon specification.processes shape b
      ≡ option_map (draft_by shape base) (open_move data_ canon specification.processes base shape 0 b)
  pub both :
      (data_ : Data) (canon : Term → Term) (specification : Specification) (meet : SynchronisationSet) (b c : Behaviour) →
      AreOver data_ canon specification (parallel meet b c) →
      (s t : Shape) →
      draft_of data_ canon specification.processes (both_sides s t) (parallel meet b c)
      ≡ option_and_then
      (λ (left : Draft). option_and_then (joined_at data_ meet left) (draft_of data_ canon specification.processes t c))
      (draft_of data_ canon specification.processes s b)
