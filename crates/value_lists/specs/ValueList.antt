-- Values: the ground terms that cannot be reduced; and the lists of them up to a size.
use Rattle.std.specs.Prelude.{◌↔◌, ◌≤◌, ◌<◌, ℕ, List, [], ◌∷◌, length}
use Rattle.std.specs.List.{AllPairs, Contains}
use Rattle.lotos_base.specs.Signature.{Signature}
use Rattle.lotos_base.specs.Sorting.{IsGroundOf}
use Rattle.lotos_base.specs.Term.{Term}
use Rattle.value_lists.specs.TermOrder.{term_size, ComesBefore}

-- The term is a value of the sort: a ground term of it that is irreducible, by rules, or as a canon has it.
pub record IsValue (signature : Signature) (Irreducible : Term → Type 0) (sort : ℕ) (t : Term) : Type 0 where
  pub is_ground : IsGroundOf signature sort t
  pub irreducible : Irreducible t

-- It is one with at most so many operations.
abbrev pub IsValueWithin : Signature → (Term → Type 0) → ℕ → ℕ → Term → Type 0
IsValueWithin signature Irreducible limit sort t = IsValue signature Irreducible sort t × (term_size t ≤ limit)

-- The list has exactly the terms with the property, in the order of values. So it has each of them once.
pub record ListsInOrder (Wanted : Term → Type 0) (terms : List Term) : Type 0 where
  pub exactly : (t : Term) → Contains terms t ↔ Wanted t
  pub rising : AllPairs ComesBefore terms

-- The list of the values of the sort with at most so many operations.
abbrev pub IsValueList : Signature → (Term → Type 0) → ℕ → ℕ → List Term → Type 0
IsValueList signature Irreducible limit sort terms = ListsInOrder (IsValueWithin signature Irreducible limit sort) terms

-- For each of the sorts there is the list of its values.
abbrev pub AreValueLists : Signature → (Term → Type 0) → ℕ → List ℕ → List (List Term) → Type 0
AreValueLists signature Irreducible limit [] [] = Unit {0}
AreValueLists signature Irreducible limit [] (list ∷ lists) = ⊥
AreValueLists signature Irreducible limit (sort ∷ sorts) [] = ⊥
AreValueLists signature Irreducible limit (sort ∷ sorts) (list ∷ lists) =
    IsValueList signature Irreducible limit sort list × AreValueLists signature Irreducible limit sorts lists

-- The list of the values with at most so many operations, of all sorts.
abbrev pub IsWholeList : Signature → (Term → Type 0) → ℕ → List Term → Type 0
IsWholeList signature Irreducible limit terms =
    ListsInOrder (λ t. (sort : ℕ) × IsValueWithin signature Irreducible limit sort t) terms

-- There are more values than this number with at most so many operations, over all sorts.
abbrev pub HasMoreValues : Signature → (Term → Type 0) → ℕ → ℕ → Type 0
HasMoreValues signature Irreducible limit number =
    (terms : List Term) × IsWholeList signature Irreducible limit terms × (number < length terms)

-- There are at most as many as this number.
abbrev pub HasUpToValues : Signature → (Term → Type 0) → ℕ → ℕ → Type 0
HasUpToValues signature Irreducible limit number =
    (terms : List Term) × IsWholeList signature Irreducible limit terms × (length terms ≤ number)
