-- The places at which left sides may overlap, in order, and the pairs that going through them gives.
use Rattle.std.specs.Prelude.{◌≡◌, ℕ, zero, suc, List, [], ◌∷◌, ◌++◌, map, Bool, true, false, nat_eq, ◌&&◌, if◌then◌else◌}
use Rattle.lotos_base.specs.Term.{Term, variable, node, Terms, no_terms, term_then}
use Rattle.rewriting_theory.specs.Rule.{Rule}
use Rattle.rewriting_theory.specs.CriticalPair.{OverlapPlace, Overlaps, CriticalPair, IsCriticalPair}
use Rattle.rewriting_theory.specs.Numbering.{IsNumbered}
use Rattle.rewriting_theory.specs.PairList.{PairPlace, place_of_critical_pair}

abbrev mutual
  -- The paths of the term that lead to no variable, in preorder.
  pub node_paths : Term → List (List ℕ)
  node_paths (variable n s) = []
  node_paths (node f ts) = [] ∷ argument_paths zero ts

  -- Those that go through arguments, of which the first one has this position.
  pub argument_paths : ℕ → Terms → List (List ℕ)
  argument_paths k no_terms = []
  argument_paths k (term_then t ts) = map (λ path. k ∷ path) (node_paths t) ++ argument_paths (suc k) ts

-- Whether the path is that of the root.
abbrev pub is_root : List ℕ → Bool
is_root [] = true
is_root (k ∷ path) = false

-- The places of the two rules at these paths, but for a rule with itself at the root.
abbrev pub places_at : ℕ → ℕ → List (List ℕ) → List PairPlace
places_at first second [] = []
places_at first second (path ∷ paths) =
    if nat_eq first second && is_root path
    then places_at first second paths
    else record { first = first; second = second; path = path } ∷ places_at first second paths

-- The places of the first rule, which has this number, with each of the second ones, of which the first one has this
-- number.
abbrev pub places_with : ℕ → Rule → ℕ → List Rule → List PairPlace
places_with first rule second [] = []
places_with first rule second (other ∷ others) =
    places_at first second (node_paths rule.left) ++ places_with first rule (suc second) others

-- The places of the first rules, of which the first one has this number, with each of the rules.
abbrev pub places_from : List Rule → ℕ → List Rule → List PairPlace
places_from rules first [] = []
places_from rules first (rule ∷ firsts) = places_with first rule zero rules ++ places_from rules (suc first) firsts

-- All places of the rules: by the first rule, then by the second rule, then by the path in preorder.
abbrev pub places : List Rule → List PairPlace
places rules = places_from rules zero rules

-- The pair is that of the place: a critical pair there, its variables numbered by first appearance in its peak.
pub record IsPairOf (rules : List Rule) (place : PairPlace) (pair : CriticalPair) : Type 0 where
  pub is_place : place_of_critical_pair pair ≡ place
  pub critical : IsCriticalPair rules pair
  pub numbered : IsNumbered pair.peak

-- The left sides do not overlap at the place.
abbrev pub IsApartAt : List Rule → PairPlace → Type 0
IsApartAt rules place = (there : OverlapPlace rules place.first place.second place.path) → ¬ Overlaps there

-- What going through the places gives: no pair for a place where the left sides do not overlap, one pair for each other
-- place.
pub data PairsOf (rules : List Rule) : List PairPlace → List CriticalPair → Type 0 where
  no_place : PairsOf rules [] []
  no_pair : {place : PairPlace} {others : List PairPlace} {pairs : List CriticalPair} → IsApartAt rules place
      → PairsOf rules others pairs → PairsOf rules (place ∷ others) pairs
  one_pair : {place : PairPlace} {others : List PairPlace} {pair : CriticalPair} {pairs : List CriticalPair}
      → IsPairOf rules place pair → PairsOf rules others pairs → PairsOf rules (place ∷ others) (pair ∷ pairs)
