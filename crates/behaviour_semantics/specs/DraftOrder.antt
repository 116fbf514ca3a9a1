-- Drafts in order, whatever behaviour they come from, and the ground leaves that meet them.
use Rattle.std.specs.Prelude.{◌≡◌, ◌<◌, ℕ, List, [], ◌∷◌, map, length, nat_eq, if◌then◌else◌, slice_get, Some}
use Rattle.lotos_base.specs.Signature.{Signature}
use Rattle.lotos_base.specs.Term.{Term, variable, node}
use Rattle.lotos_base.specs.Sorting.{HasSort, IsGroundOf, Occurs}
use Rattle.lotos_base.specs.Equation.{Data}
use Rattle.lotos_base.specs.Substitution.{Substitution, substituted}
use Rattle.behaviour_semantics.specs.Behaviour.{Test}
use Rattle.behaviour_semantics.specs.Label.{Label}
use Rattle.behaviour_semantics.specs.Replacement.{test_with}
use Rattle.behaviour_semantics.specs.Rule.{AllHold, label_values}
use Rattle.behaviour_semantics.specs.Draft.{Draft, label_with}
use Rattle.behaviour_semantics.specs.Solving.{Entry}
use Rattle.behaviour_semantics.specs.Menu.{EqualTerms}
use Rattle.behaviour_semantics.specs.WellFormed.{Every}

-- The variable is itself one of the leaves.
abbrev pub IsLeaf : List Term → ℕ → ℕ → Type 0
IsLeaf leaves n s = (i : ℕ) × (slice_get leaves i ≡ Some (variable n s))

-- The term has this sort, and each of its variables is itself one of the leaves.
pub record HasLeafVariables (signature : Signature) (leaves : List Term) (sort : ℕ) (t : Term) : Type 0 where
  pub sorted : HasSort signature t sort
  pub own : (n s : ℕ) → Occurs n s t → IsLeaf leaves n s

-- A term of some sort, and a condition whose two sides have one sort, with such variables.
abbrev pub IsDraftTerm : Signature → List Term → Term → Type 0
IsDraftTerm signature leaves t = (s : ℕ) × HasLeafVariables signature leaves s t

abbrev pub IsDraftTest : Signature → List Term → Test → Type 0
IsDraftTest signature leaves test =
    (s : ℕ) × HasLeafVariables signature leaves s test.left × HasLeafVariables signature leaves s test.right

-- The draft is in order: its terms are of the signature, the two sides of a condition have one sort, and each of its
-- variables is itself one of the leaves, with a number below the number of leaves and with one sort for this number.
pub record IsInOrder (signature : Signature) (draft : Draft) : Type 0 where
  pub values : Every (IsDraftTerm signature draft.leaves) (label_values draft.label)
  pub leaves : Every (IsDraftTerm signature draft.leaves) draft.leaves
  pub conditions : Every (IsDraftTest signature draft.leaves) draft.conditions
  pub below : (n s : ℕ) → IsLeaf draft.leaves n s → n < length draft.leaves
  pub one_sort : (n r s : ℕ) → IsLeaf draft.leaves n r → IsLeaf draft.leaves n s → r ≡ s

-- An entry read as a draft.
abbrev pub as_draft : Entry → Draft
as_draft entry = record { shape = entry.shape; label = entry.label; leaves = entry.leaves; conditions = entry.conditions }

-- The values that ground leaves give the variables: a variable has the value of the first leaf that is this variable.
abbrev pub values_from : List Term → List Term → Substitution
values_from (variable m r ∷ leaves) (v ∷ values) n s = if nat_eq m n then v else values_from leaves values n s
values_from (node f ts ∷ leaves) (v ∷ values) n s = values_from leaves values n s
values_from _ _ n s = variable n s

-- As many ground terms as leaves, each of the sort of its leaf.
abbrev pub AreGroundLeaves : Signature → List Term → List Term → Type 0
AreGroundLeaves signature [] [] = Unit {0}
AreGroundLeaves signature (t ∷ ts) (v ∷ vs) = ((s : ℕ) × HasSort signature t s × IsGroundOf signature s v) × AreGroundLeaves signature ts vs
AreGroundLeaves signature _ _ = ⊥

-- The ground leaves meet the draft: they are as many as its leaves, each of the sort of its leaf, and with the values
-- that they give the variables, the draft's leaves are equal to them and its conditions hold.
pub record LeavesMeet (data_ : Data) (draft : Draft) (leaves : List Term) : Type 0 where
  pub ground : AreGroundLeaves data_.signature draft.leaves leaves
  pub agree : EqualTerms data_ (map (substituted (values_from draft.leaves leaves)) draft.leaves) leaves
  pub met : AllHold data_ (map (test_with (values_from draft.leaves leaves)) draft.conditions)

-- The draft's label with these values put in.
abbrev pub label_from : Draft → List Term → Label
label_from draft leaves = label_with (values_from draft.leaves leaves) draft.label
