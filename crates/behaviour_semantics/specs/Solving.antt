-- Solving a draft: conditions that fix a variable are used up, and the rest is an entry of a menu.
use Rattle.std.specs.Prelude.{◌≡◌, ℕ, suc, List, [], ◌∷◌, Bool, ◌&&◌, ◌||◌, not, nat_eq, nat_lt, if◌then◌else◌, map, filter, Option, None, Some}
use Rattle.lotos_base.specs.Term.{Term, variable, node}
use Rattle.lotos_base.specs.Tests.{term_eq, is_ground, occurs}
use Rattle.lotos_base.specs.Substitution.{Substitution, substituted, binding}
use Rattle.behaviour_semantics.specs.Behaviour.{Test}
use Rattle.behaviour_semantics.specs.Label.{Label, inner_event, gate_event, exit_event}
use Rattle.behaviour_semantics.specs.Replacement.{test_with}
use Rattle.behaviour_semantics.specs.Shape.{Shape}
use Rattle.behaviour_semantics.specs.Draft.{Draft, draft_with, label_with}

-- A label, a test and a draft with every term in canonical form.
abbrev pub label_in : (Term → Term) → Label → Label
label_in canon inner_event = inner_event
label_in canon (gate_event g terms) = gate_event g (map canon terms)
label_in canon (exit_event terms) = exit_event (map canon terms)

abbrev pub test_in : (Term → Term) → Test → Test
test_in canon test = record { left = canon test.left; right = canon test.right }

abbrev pub canonical : (Term → Term) → Draft → Draft
canonical canon draft = record {
  shape = draft.shape;
  label = label_in canon draft.label;
  leaves = map canon draft.leaves;
  conditions = map (test_in canon) draft.conditions;
}

-- The conditions whose sides differ.
abbrev pub differing : List Test → List Test
differing conditions = filter (λ (test : Test). not (term_eq test.left test.right)) conditions

-- One condition at least has no variable.
abbrev pub has_closed : List Test → Bool
has_closed [] = Bool.false
has_closed (test ∷ tests) = (is_ground test.left && is_ground test.right) || has_closed tests

-- The first two steps: every term becomes canonical, and conditions with identical sides are dropped.
abbrev pub tidied : (Term → Term) → Draft → Draft
tidied canon draft = let made : Draft = canonical canon draft in record made { conditions = differing made.conditions }

-- A bare side, with the other side, which lacks it.
abbrev pub one_side : Term → Term → Option (ℕ × Term)
one_side (variable n s) other = if occurs n s other then None else Some (n, other)
one_side (node f ts) other = None

-- What the left side gives, or else what the right side gives.
abbrev pub either_side : Term → Term → Option (ℕ × Term) → Option (ℕ × Term)
either_side left right (Some found) = Some found
either_side left right None = one_side right left

-- The variable that a condition gives a value, with this value. Of two bare variables the later is replaced by the
-- earlier; otherwise a bare left side that the right side lacks is replaced, or else a bare right side that the
-- left side lacks.
abbrev pub replacement_of : Term → Term → Option (ℕ × Term)
replacement_of (variable n s) (variable m r) =
    if nat_lt n m then Some (m, variable n s) else (if nat_lt m n then Some (n, variable m r) else None)
replacement_of left right = either_side left right (one_side left right)

-- The first of two replacements that is there.
abbrev pub first_found : Option (ℕ × Term) → Option (ℕ × Term) → Option (ℕ × Term)
first_found (Some found) later = Some found
first_found None later = later

-- The replacement that the first condition gives that gives one.
abbrev pub first_replacement : List Test → Option (ℕ × Term)
first_replacement [] = None
first_replacement (test ∷ tests) = first_found (replacement_of test.left test.right) (first_replacement tests)

-- The replacement made everywhere.
abbrev pub replaced : (ℕ × Term) → Draft → Draft
replaced found draft = draft_with (binding (found ∷ [])) draft

-- An entry of a menu: the shape, the label, the sorts of its variables, the leaves and the conditions that are left.
pub record Entry : Type 0 where
  pub shape : Shape
  pub label : Label
  pub variables : List ℕ
  pub leaves : List Term
  pub conditions : List Test

-- The sort of the first leaf that is the variable with this number, if there is one.
abbrev pub leaf_sort : ℕ → List Term → Option ℕ
leaf_sort n [] = None
leaf_sort n (variable m s ∷ leaves) = if nat_eq m n then Some s else leaf_sort n leaves
leaf_sort n (node f ts ∷ leaves) = leaf_sort n leaves

-- The number with its sort, if it has one, before the rest.
abbrev pub numbered : ℕ → Option ℕ → List (ℕ × ℕ) → List (ℕ × ℕ)
numbered n None rest = rest
numbered n (Some s) rest = (n, s) ∷ rest

-- The variables that are left, in the order of their numbers, each with its sort: those that are leaves. As many
-- numbers are looked at as the first list is long. In the draft of a shape the variables that are left are their own
-- leaves, so this is the order of their own leaves.
abbrev pub variables_left : ℕ → List Term → List Term → List (ℕ × ℕ)
variables_left n [] leaves = []
variables_left n (leaf ∷ rest) leaves = numbered n (leaf_sort n leaves) (variables_left (suc n) rest leaves)

-- The place of a number in the list of the variables that are left, counted from a first place on.
abbrev pub place_of_number : ℕ → List (ℕ × ℕ) → ℕ → ℕ
place_of_number first [] n = n
place_of_number first (kept ∷ rest) n = if nat_eq kept.0 n then first else place_of_number (suc first) rest n

-- The entry of a draft on which nothing is left to do: its variables are numbered from 0.
abbrev pub entry_of : Draft → Entry
entry_of draft =
    let kept : List (ℕ × ℕ) = variables_left 0 draft.leaves draft.leaves in
    let renumbered : Substitution = λ n s. variable (place_of_number 0 kept n) s in
    record {
      shape = draft.shape;
      label = label_with renumbered draft.label;
      variables = map (λ (v : ℕ × ℕ). v.1) kept;
      leaves = map (substituted renumbered) draft.leaves;
      conditions = map (test_with renumbered) draft.conditions;
    }

-- The outcome of solving a draft. After tidying, a condition without variables ends the work with no entry;
-- where there is none, the first replacement is made everywhere and the work begins again; where there is no
-- replacement either, the rest is the entry.
pub data SolvesTo (canon : Term → Term) : Draft → Option Entry → Type 0 where
  unsolvable : (draft : Draft) → has_closed (tidied canon draft).conditions ≡ Bool.true → SolvesTo canon draft None
  settled :
      (draft : Draft) →
      has_closed (tidied canon draft).conditions ≡ Bool.false →
      first_replacement (tidied canon draft).conditions ≡ None →
      SolvesTo canon draft (Some (entry_of (tidied canon draft)))
  replacing :
      (draft : Draft) (found : ℕ × Term) (outcome : Option Entry) →
      has_closed (tidied canon draft).conditions ≡ Bool.false →
      first_replacement (tidied canon draft).conditions ≡ Some found →
      SolvesTo canon (replaced found (tidied canon draft)) outcome →
      SolvesTo canon draft outcome
