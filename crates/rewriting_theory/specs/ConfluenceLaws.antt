-- Laws of confluence: Newman's lemma, and the critical pair lemma for all terms, variables allowed (Baader and Nipkow,
-- 2.7 and 6.2).
use Rattle.std.specs.Prelude.{◌≡◌, ◌↔◌, ℕ, List}
use Rattle.lotos_base.specs.Term.{Term}
use Rattle.rewriting_theory.specs.Rule.{Rule, AreWellFormedRules}
use Rattle.rewriting_theory.specs.Reduction.{Reaches, Join}
use Rattle.rewriting_theory.specs.Rewriting.{Rewrites, IsNormal, Terminates, AreConfluent, AreLocallyConfluent}
use Rattle.rewriting_theory.specs.ChosenForm.{Chosen}
use Rattle.rewriting_theory.specs.CriticalPair.{OverlapPlace, Overlaps, CriticalPair, IsCriticalPair}

-- where rewriting ends, the rules are confluent as soon as any two links from one term can be joined
abbrev pub LocalConfluenceIsEnough : Type 0
LocalConfluenceIsEnough = (rules : List Rule) → Terminates rules → AreLocallyConfluent rules → AreConfluent rules

-- the two sides of each critical pair can be joined
abbrev pub PairsJoin : List Rule → Type 0
PairsJoin rules = (pair : CriticalPair) → IsCriticalPair rules pair → Join (Rewrites rules) pair.left pair.right

-- the two sides of each critical pair have the same chosen form
abbrev pub PairsAgree : List Rule → Type 0
PairsAgree rules = (pair : CriticalPair) (left right : Term) → IsCriticalPair rules pair → Chosen rules pair.left left
    → Chosen rules pair.right right → left ≡ right

-- any two links from one term can be joined exactly where both sides of each critical pair can
abbrev pub CriticalPairLemma : Type 0
CriticalPairLemma = (rules : List Rule) → AreWellFormedRules rules → AreLocallyConfluent rules ↔ PairsJoin rules

-- where rewriting ends, the rules are confluent exactly where both sides of each critical pair have one chosen form
abbrev pub ConfluentWherePairsAgree : Type 0
ConfluentWherePairsAgree = (rules : List Rule) → AreWellFormedRules rules → Terminates rules
    → AreConfluent rules ↔ PairsAgree rules

-- the peak of a critical pair rewrites to its two sides, and to their chosen forms, which are irreducible
abbrev pub PeaksRewriteToBoth : Type 0
PeaksRewriteToBoth = (rules : List Rule) (pair : CriticalPair) → IsCriticalPair rules pair
    → Rewrites rules pair.peak pair.left × Rewrites rules pair.peak pair.right

abbrev pub PeaksReachBothForms : Type 0
PeaksReachBothForms = (rules : List Rule) (pair : CriticalPair) (left right : Term) → AreWellFormedRules rules
    → IsCriticalPair rules pair → Chosen rules pair.left left → Chosen rules pair.right right
    → Reaches (Rewrites rules) pair.peak left × Reaches (Rewrites rules) pair.peak right
    × IsNormal rules left × IsNormal rules right

-- at each place where two left sides have a common instance there is a critical pair
abbrev pub OverlapsHavePairs : Type 0
OverlapsHavePairs = (rules : List Rule) (first second : ℕ) (path : List ℕ) (place : OverlapPlace rules first second path)
    → Overlaps place
    → (peak : Term) × (left : Term) × (right : Term) × IsCriticalPair rules (record {
      first = first;
      second = second;
      path = path;
      peak = peak;
      left = left;
      right = right;
    })
