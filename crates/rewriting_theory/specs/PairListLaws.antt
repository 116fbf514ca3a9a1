-- Laws of the list of critical pairs: it decides confluence, and its first unjoined pair shows that the rules are not
-- confluent.
use Rattle.std.specs.Prelude.{◌≡◌, ◌⊎◌, ◌↔◌, ℕ, List, ◌++◌, map, Some, slice_get}
use Rattle.lotos_base.specs.Signature.{Signature}
use Rattle.lotos_base.specs.Term.{Term}
use Rattle.lotos_base.specs.Sorting.{HasSort}
use Rattle.lotos_base.specs.Substitution.{substituted, renaming}
use Rattle.lotos_base.specs.Canon.{KeepsApart}
use Rattle.rewriting_theory.specs.Rule.{Rule, AreWellFormedRules}
use Rattle.rewriting_theory.specs.Reduction.{Reaches}
use Rattle.rewriting_theory.specs.Rewriting.{Rewrites, IsNormal, Terminates, AreConfluent}
use Rattle.rewriting_theory.specs.CriticalPair.{OverlapPlace, CriticalPair, IsCriticalPair}
use Rattle.rewriting_theory.specs.Numbering.{IsNumbered}
use Rattle.rewriting_theory.specs.PairList.{PairPlace, place_of_critical_pair, AreCriticalPairs, IsUnjoined, IsFirstUnjoined}
use Rattle.rewriting_theory.specs.Places.{places, PairsOf}

-- where rewriting ends, the rules are confluent exactly where both sides of each listed pair have one chosen form
abbrev pub ListedPairsDecide : Type 0
ListedPairsDecide = (rules : List Rule) (pairs : List CriticalPair) → AreWellFormedRules rules → Terminates rules
    → AreCriticalPairs rules pairs
    → AreConfluent rules ↔ ((number : ℕ) (pair : CriticalPair) (left right : Term) → slice_get pairs number ≡ Some pair
    → ¬ IsUnjoined rules pair left right)

-- so either they are confluent or one of the listed pairs is the first unjoined one
abbrev pub ConfluentOrUnjoined : Type 0
ConfluentOrUnjoined = (rules : List Rule) (pairs : List CriticalPair) → AreWellFormedRules rules → Terminates rules
    → AreCriticalPairs rules pairs
    → AreConfluent rules ⊎ ((number : ℕ) × (left : Term) × (right : Term) × IsFirstUnjoined rules pairs number left right)

-- where some pair is unjoined, the rules are not confluent
abbrev pub UnjoinedMeansNotConfluent : Type 0
UnjoinedMeansNotConfluent = (rules : List Rule) (pair : CriticalPair) (left right : Term) → AreWellFormedRules rules
    → IsCriticalPair rules pair → IsUnjoined rules pair left right → ¬ AreConfluent rules

-- since its peak rewrites to two different irreducible terms
pub record RewritesToTwo (rules : List Rule) (peak left right : Term) : Type 0 where
  pub reaches_left : Reaches (Rewrites rules) peak left
  pub reaches_right : Reaches (Rewrites rules) peak right
  pub left_irreducible : IsNormal rules left
  pub right_irreducible : IsNormal rules right
  pub differ : ¬ (left ≡ right)

abbrev pub UnjoinedPeaksRewriteToTwo : Type 0
UnjoinedPeaksRewriteToTwo = (rules : List Rule) (pair : CriticalPair) (left right : Term) → AreWellFormedRules rules
    → IsCriticalPair rules pair → IsUnjoined rules pair left right → RewritesToTwo rules pair.peak left right

-- The pair with its variables renamed.
abbrev pub renamed_pair : (ℕ → ℕ → ℕ) → CriticalPair → CriticalPair
renamed_pair number pair = record {
  first = pair.first;
  second = pair.second;
  path = pair.path;
  peak = substituted (renaming number) pair.peak;
  left = substituted (renaming number) pair.left;
  right = substituted (renaming number) pair.right;
}

-- a critical pair whose variables are renamed apart is a critical pair, so their numbers may be chosen
abbrev pub RenamedPairsAreCritical : Type 0
RenamedPairsAreCritical = (rules : List Rule) (pair : CriticalPair) (number : ℕ → ℕ → ℕ) → IsCriticalPair rules pair
    → KeepsApart number pair.peak → IsCriticalPair rules (renamed_pair number pair)

-- each place where left sides may overlap is one of the places
abbrev pub EachPlaceIsListed : Type 0
EachPlaceIsListed = (rules : List Rule) (place : PairPlace) → OverlapPlace rules place.first place.second place.path
    → (number : ℕ) × (slice_get (places rules) number ≡ Some place)

-- what going through all places gives is the list of the critical pairs
abbrev pub PairsOfPlacesAreAll : Type 0
PairsOfPlacesAreAll = (rules : List Rule) (pairs : List CriticalPair) → PairsOf rules (places rules) pairs
    → AreCriticalPairs rules pairs

-- going through some places and then through others gives the pairs of both
abbrev pub PairsOfPlacesAppend : Type 0
PairsOfPlacesAppend = (rules : List Rule) (one two : List PairPlace) (pairs others : List CriticalPair)
    → PairsOf rules one pairs → PairsOf rules two others → PairsOf rules (one ++ two) (pairs ++ others)

-- two lists of the critical pairs of some rules have pairs at the same places, in the same order
abbrev pub ListsHaveTheSamePlaces : Type 0
ListsHaveTheSamePlaces = (rules : List Rule) (pairs others : List CriticalPair) → AreCriticalPairs rules pairs
    → AreCriticalPairs rules others → map place_of_critical_pair pairs ≡ map place_of_critical_pair others

-- a list has only one first unjoined pair, with one chosen form of each side
abbrev pub FirstUnjoinedIsUnique : Type 0
FirstUnjoinedIsUnique = (rules : List Rule) (pairs : List CriticalPair) (n m : ℕ) (t u v w : Term)
    → AreWellFormedRules rules → IsFirstUnjoined rules pairs n t u → IsFirstUnjoined rules pairs m v w
    → (n ≡ m) × (t ≡ v) × (u ≡ w)

-- two critical pairs at one place, with their variables numbered by first appearance and their peaks of one sort over a
-- signature, are one pair
abbrev pub NumberedPairsAreUnique : Type 0
NumberedPairsAreUnique = (signature : Signature) (rules : List Rule) (one two : CriticalPair) (s : ℕ)
    → AreWellFormedRules rules → IsCriticalPair rules one → IsCriticalPair rules two
    → place_of_critical_pair one ≡ place_of_critical_pair two
    → IsNumbered one.peak → IsNumbered two.peak → HasSort signature one.peak s → HasSort signature two.peak s
    → one ≡ two

-- each set of rules has a list of its critical pairs
abbrev pub ListsOfPairsExist : Type 0
ListsOfPairsExist = (rules : List Rule) → (pairs : List CriticalPair) × AreCriticalPairs rules pairs

-- so where rewriting ends it is decided whether the rules are confluent
abbrev pub ConfluenceIsDecided : Type 0
ConfluenceIsDecided = (rules : List Rule) → AreWellFormedRules rules → Terminates rules
    → AreConfluent rules ⊎ (¬ AreConfluent rules)
