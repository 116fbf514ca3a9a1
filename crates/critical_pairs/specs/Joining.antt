-- Whether the sides of each critical pair have one chosen form, and the first pair whose sides have two.
use Rattle.std.specs.Prelude.{◌≡◌, ◌<◌, ℕ, List, Some, slice_get}
use Rattle.lotos_base.specs.Signature.{Signature}
use Rattle.lotos_base.specs.Term.{Term}
use Rattle.lotos_base.specs.Sorting.{IsTermOf}
use Rattle.rewriting_theory.specs.Rule.{Rule}
use Rattle.rewriting_theory.specs.Rewriting.{AreConfluent}
use Rattle.rewriting_theory.specs.CriticalPair.{CriticalPair}
use Rattle.rewriting_theory.specs.PairList.{PairPlace, AreCriticalPairs, IsUnjoined, IsFirstUnjoined}
use Rattle.rewriting_theory.specs.Places.{PairsOf}
use Rattle.rewriting_theory.specs.PairListLaws.{RewritesToTwo}
use Rattle.path_order.specs.HandedOn.{NumberedRule, rules_of}
use Rattle.sort_terms.specs.SortedView.{profiled_in, term_in}
use Rattle.critical_pairs.specs.Listing.{equation_at}
use Rattle.critical_pairs.specs.OverlapPair.{ArePairTermsOf}
use Rattle.critical_pairs.specs.declared.joining.Unjoined.{Unjoined}
use Rattle.critical_pairs.specs.declared.pair_fault.PairFault.{PairFault}
use Rattle.critical_pairs.specs.declared.pair_fault.PairFault.TheVariants.{Unjoined as UnjoinedFault, NoMemory}

-- what `all_join` says of rules that it joins: they are confluent
abbrev pub StaysJoined : List Rule → Type 0
StaysJoined rules = AreConfluent rules

-- The peak of each of the pairs is a term of the signature.
abbrev pub ArePeaksOf : Signature → List CriticalPair → Type 0
ArePeaksOf signature pairs = (k : ℕ) (pair : CriticalPair) → slice_get pairs k ≡ Some pair → IsTermOf signature pair.peak

-- Rules over a signature, with the numbers of their equations, are not confluent: the first one of their critical pairs
-- whose sides have different chosen forms is of the rules of these equations and has this peak, its sides have these chosen
-- forms, and the peak rewrites to both. The peaks are terms of the signature.
pub record AreUnjoinedBy (signature : Signature) (rules : List NumberedRule) (first second : ℕ) (peak left right : Term) : Type 0 where
  pub pairs : List CriticalPair
  pub all : AreCriticalPairs (rules_of rules) pairs
  pub peaks : ArePeaksOf signature pairs
  pub number : ℕ
  pub is_first : IsFirstUnjoined (rules_of rules) pairs number left right
  pub first_is : first ≡ equation_at rules is_first.pair.first
  pub second_is : second ≡ equation_at rules is_first.pair.second
  pub peak_is : peak ≡ is_first.pair.peak
  pub rewrites : RewritesToTwo (rules_of rules) peak left right
  pub not_confluent : ¬ AreConfluent (rules_of rules)

-- What a fault says of rules over a signature.
abbrev pub HoldsOfPairFault : Signature → List NumberedRule → PairFault → Type 0
HoldsOfPairFault signature rules (UnjoinedFault first second peak left right) =
    AreUnjoinedBy signature rules first second (term_in peak) (term_in left) (term_in right)
HoldsOfPairFault signature rules NoMemory = Unit {0}

-- The terms of a fault are of the signature, with its profiles.
abbrev pub IsPairFaultOver : Signature → PairFault → Type 0
IsPairFaultOver signature (UnjoinedFault first second peak left right) =
    ArePairTermsOf signature (record { peak = profiled_in peak; left = profiled_in left; right = profiled_in right })
IsPairFaultOver signature NoMemory = Unit {0}

-- None of the pairs has sides with different chosen forms.
abbrev pub NoneUnjoinedAmong : List Rule → List CriticalPair → Type 0
NoneUnjoinedAmong rules pairs = (k : ℕ) (pair : CriticalPair) (t u : Term) → slice_get pairs k ≡ Some pair
    → ¬ IsUnjoined rules pair t u

-- The pairs of the places have sides with one chosen form.
pub record AreJoinedAt (rules : List Rule) (places : List PairPlace) : Type 0 where
  pub pairs : List CriticalPair
  pub pairs_of : PairsOf rules places pairs
  pub none : NoneUnjoinedAmong rules pairs

-- The terms of the answer are of the signature.
abbrev pub IsAnswerOver : Signature → Unjoined → Type 0
IsAnswerOver signature answer =
    ArePairTermsOf signature (record { peak = profiled_in answer.peak; left = profiled_in answer.left; right = profiled_in answer.right })

-- The answer has the numbers and the peak of the pair, and the different chosen forms of its sides.
pub record AnswersPair (rules : List Rule) (pair : CriticalPair) (answer : Unjoined) : Type 0 where
  pub first_is : answer.first ≡ pair.first
  pub second_is : answer.second ≡ pair.second
  pub peak_is : term_in answer.peak ≡ pair.peak
  pub unjoined : IsUnjoined rules pair (term_in answer.left) (term_in answer.right)

-- The pair of the answer is the first such one of the list.
pub record AnswersFirst (rules : List Rule) (pairs : List CriticalPair) (answer : Unjoined) : Type 0 where
  pub number : ℕ
  pub pair : CriticalPair
  pub is_pair : slice_get pairs number ≡ Some pair
  pub answers : AnswersPair rules pair answer
  pub none_before : (k : ℕ) (earlier : CriticalPair) (t u : Term) → k < number → slice_get pairs k ≡ Some earlier
      → ¬ IsUnjoined rules earlier t u
