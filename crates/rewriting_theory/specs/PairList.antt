-- The list of all critical pairs of rules, in order: by the first rule, then by the second rule, then by the path in
-- preorder. The variables of each pair are numbered by first appearance in its peak.
use Rattle.std.specs.Prelude.{◌≡◌, ◌<◌, ◌⊎◌, ℕ, List, [], ◌∷◌, Some, slice_get}
use Rattle.lotos_base.specs.Term.{Term}
use Rattle.rewriting_theory.specs.Rule.{Rule}
use Rattle.rewriting_theory.specs.ChosenForm.{Chosen}
use Rattle.rewriting_theory.specs.CriticalPair.{OverlapPlace, Overlaps, CriticalPair, IsCriticalPair}
use Rattle.rewriting_theory.specs.Numbering.{IsNumbered}

-- Preorder of paths: a path comes before the longer ones that begin with it, and arguments from left to right.
abbrev pub PathComesBefore : List ℕ → List ℕ → Type 0
PathComesBefore [] [] = ⊥
PathComesBefore [] (k ∷ q) = Unit {0}
PathComesBefore (j ∷ p) [] = ⊥
PathComesBefore (j ∷ p) (k ∷ q) = (j < k) ⊎ ((j ≡ k) × PathComesBefore p q)

-- A place of a pair: the numbers of its two rules, and the path.
pub record PairPlace : Type 0 where
  pub first : ℕ
  pub second : ℕ
  pub path : List ℕ

-- The place of the pair.
abbrev pub place_of_critical_pair : CriticalPair → PairPlace
place_of_critical_pair pair = record { first = pair.first; second = pair.second; path = pair.path }

-- The first place comes before the second one.
abbrev pub IsEarlierPlace : PairPlace → PairPlace → Type 0
IsEarlierPlace one two =
    (one.first < two.first)
    ⊎ ((one.first ≡ two.first) × ((one.second < two.second) ⊎ ((one.second ≡ two.second) × PathComesBefore one.path two.path)))

-- These are the critical pairs of the rules: each is one, with its variables numbered; each place where two left sides
-- overlap has one; and they stand in order, so a place has no two.
pub record AreCriticalPairs (rules : List Rule) (pairs : List CriticalPair) : Type 0 where
  pub critical : (number : ℕ) (pair : CriticalPair) → slice_get pairs number ≡ Some pair → IsCriticalPair rules pair
  pub numbered : (number : ℕ) (pair : CriticalPair) → slice_get pairs number ≡ Some pair → IsNumbered pair.peak
  pub complete : (place : PairPlace) (there : OverlapPlace rules place.first place.second place.path) → Overlaps there
      → (number : ℕ) × (pair : CriticalPair) × (slice_get pairs number ≡ Some pair) × (place_of_critical_pair pair ≡ place)
  pub ordered : (i j : ℕ) (one two : CriticalPair) → i < j → slice_get pairs i ≡ Some one → slice_get pairs j ≡ Some two
      → IsEarlierPlace (place_of_critical_pair one) (place_of_critical_pair two)

-- The two sides of the pair have these chosen forms, and they differ.
pub record IsUnjoined (rules : List Rule) (pair : CriticalPair) (left right : Term) : Type 0 where
  pub is_left : Chosen rules pair.left left
  pub is_right : Chosen rules pair.right right
  pub differ : ¬ (left ≡ right)

-- The pair with this number is the first one of the list whose sides have different chosen forms, and these are they.
pub record IsFirstUnjoined (rules : List Rule) (pairs : List CriticalPair) (number : ℕ) (left right : Term) : Type 0 where
  pub pair : CriticalPair
  pub is_pair : slice_get pairs number ≡ Some pair
  pub unjoined : IsUnjoined rules pair left right
  pub is_first : (k : ℕ) (earlier : CriticalPair) (t u : Term) → k < number → slice_get pairs k ≡ Some earlier
      → ¬ IsUnjoined rules earlier t u
