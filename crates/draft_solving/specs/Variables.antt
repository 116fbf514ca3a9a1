-- The variables that are left, as the code finds them: a table of sorts by number, and what it says.
use Rattle.std.specs.Prelude.{ℕ, suc, List, [], ◌∷◌, Option, None, Some, slice_set}
use Rattle.lotos_base.specs.Term.{Term, variable, node}
use Rattle.behaviour_semantics.specs.Solving.{leaf_sort}

-- the sort of each number from a first one on, as many as the first list is long, in the leaves of the second
abbrev pub leaf_sorts : ℕ → List Term → List Term → List (Option ℕ)
leaf_sorts k [] leaves = []
leaf_sorts k (t ∷ rest) leaves = leaf_sort k leaves ∷ leaf_sorts (suc k) rest leaves

-- the table with the sort of a leaf that is a variable
abbrev pub sort_noted : Term → List (Option ℕ) → List (Option ℕ)
sort_noted (variable n s) sorts = slice_set sorts n (Some s)
sort_noted (node f ts) sorts = sorts

-- what each number from a second one on becomes: where it has a sort, the next place from a first one on
abbrev pub places_by_sorts : ℕ → ℕ → List (Option ℕ) → List ℕ
places_by_sorts first k [] = []
places_by_sorts first k (None ∷ rest) = k ∷ places_by_sorts first (suc k) rest
places_by_sorts first k (Some s ∷ rest) = first ∷ places_by_sorts (suc first) (suc k) rest

-- the sorts that are there
abbrev pub found_sorts : List (Option ℕ) → List ℕ
found_sorts [] = []
found_sorts (None ∷ rest) = found_sorts rest
found_sorts (Some s ∷ rest) = s ∷ found_sorts rest
