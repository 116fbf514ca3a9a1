-- Tuples of terms, one from each of some lists, and the order in which they are listed.
use Rattle.std.specs.Prelude.{◌≡◌, ◌<◌, ◌*◌, ◌⊎◌, ℕ, List, [], ◌∷◌, Some, slice_get, length}
use Rattle.std.specs.List.{Contains}
use Rattle.lotos_base.specs.Term.{Term}

-- The tuple has one term of each of the lists.
abbrev pub IsTuple : List (List Term) → List Term → Type 0
IsTuple [] [] = Unit {0}
IsTuple [] (t ∷ ts) = ⊥
IsTuple (choice ∷ choices) [] = ⊥
IsTuple (choice ∷ choices) (t ∷ ts) = Contains choice t × IsTuple choices ts

-- how many ways there are to choose one of each list: the product of the lengths
abbrev pub tuple_count : {X : Type 0} → List (List X) → ℕ
tuple_count [] = 1
tuple_count (choice ∷ choices) = length choice * tuple_count choices

-- The first term stands in the list somewhere before the second one.
abbrev pub TermStandsBefore : List Term → Term → Term → Type 0
TermStandsBefore choice t u =
    (i : ℕ) × (j : ℕ) × (i < j) × (slice_get choice i ≡ Some t) × (slice_get choice j ≡ Some u)

-- The first tuple comes before the second one: at the first place where they differ, its term stands earlier in the list
-- there. So the first place changes slowest.
abbrev pub TupleBefore : List (List Term) → List Term → List Term → Type 0
TupleBefore [] ts us = ⊥
TupleBefore (choice ∷ choices) [] us = ⊥
TupleBefore (choice ∷ choices) (t ∷ ts) [] = ⊥
TupleBefore (choice ∷ choices) (t ∷ ts) (u ∷ us) =
    TermStandsBefore choice t u ⊎ ((t ≡ u) × TupleBefore choices ts us)

-- No term stands at two places of the list.
abbrev pub HasEachOnce : List Term → Type 0
HasEachOnce choice = (i j : ℕ) (t : Term) → slice_get choice i ≡ Some t → slice_get choice j ≡ Some t → i ≡ j

-- That holds of each of the lists.
abbrev pub AllHaveEachOnce : List (List Term) → Type 0
AllHaveEachOnce [] = Unit {0}
AllHaveEachOnce (choice ∷ choices) = HasEachOnce choice × AllHaveEachOnce choices

-- Where it does, no tuple comes before itself.
abbrev pub TuplesAreListedOnce : Type 0
TuplesAreListedOnce = (choices : List (List Term)) (ts : List Term) → AllHaveEachOnce choices → ¬ TupleBefore choices ts ts
