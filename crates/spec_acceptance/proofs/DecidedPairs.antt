-- Rules over a signature have one first critical pair whose sides have different chosen forms, if any.
use Rattle.std.proofs.Common.{refl, ap, sym, ◌∙◌, ◌≡◌, subst, ℕ, zero, suc, List, [], ◌∷◌, map, Some, slice_get}
use Rattle.std.proofs.lemmas.Option.{same_Some}
use Rattle.lotos_base.specs.Signature.{Signature, Operation}
use Rattle.lotos_base.specs.Term.{Term, variable, node}
use Rattle.lotos_base.specs.Sorting.{HasSort}
use Rattle.lotos_base.specs.Substitution.{Substitution, substituted}
use Rattle.rewriting_theory.specs.Rule.{Rule, IsNode, AreWellFormedRules}
use Rattle.rewriting_theory.specs.CriticalPair.{CriticalPair, IsCriticalPair}
use Rattle.rewriting_theory.specs.PairList.{PairPlace, place_of_critical_pair, AreCriticalPairs, IsFirstUnjoined}
use Rattle.rewriting_theory.proofs.PairListLemmas.{first_unjoined_once}
use Rattle.rewriting_theory.proofs.PlaceListLemmas.{same_places}
use Rattle.rewriting_theory.proofs.UniqueLemmas.{pairs_unique}
use Rattle.rewriting_theory.specs.Orientation.{NumberedRule, rules_of}
use Rattle.refusal_lines.specs.HandedOn.{equation_at, ArePeaksOf, AreUnjoinedBy}

-- ---- The list of the critical pairs is one

-- instances of a term that is no variable have one sort
instances_have_one_sort : (signature : Signature) (t : Term) (values others : Substitution) (r s : ℕ) → IsNode t
    → HasSort signature (substituted values t) r → HasSort signature (substituted others t) s → r ≡ s
instances_have_one_sort signature (variable n k) values others r s is one other = absurd is
instances_have_one_sort signature (node f ts) values others r s is one other =
    let same : one.0 ≡ other.0 = same_Some one.0 other.0 (sym one.1 ∙ other.1) in
    sym one.2 ∙ ap (λ (o : Operation). o.result) same ∙ other.2

-- so have two peaks at one place
peaks_have_one_sort : (signature : Signature) (rules : List Rule) → AreWellFormedRules rules → (one other : CriticalPair)
    → IsCriticalPair rules one → IsCriticalPair rules other → place_of_critical_pair one ≡ place_of_critical_pair other → (r s : ℕ)
    → HasSort signature one.peak r → HasSort signature other.peak s → r ≡ s
peaks_have_one_sort signature rules well one other is also at r s h k =
    let same : is.place.first_rule ≡ also.place.first_rule =
    same_Some is.place.first_rule also.place.first_rule
    (sym is.place.is_first ∙ ap (λ (p : PairPlace). slice_get rules p.first) at ∙ also.place.is_first) in
    instances_have_one_sort signature is.place.first_rule.left is.values also.values r s
    (well is.place.first_rule (one.first, is.place.is_first)).left_node
    (subst (λ (t : Term). HasSort signature t r) (sym is.is_peak) h)
    (subst (λ (rule : Rule). HasSort signature (substituted also.values rule.left) s) (sym same)
    (subst (λ (t : Term). HasSort signature t s) (sym also.is_peak) k))

abbrev first_place : PairPlace → List PairPlace → PairPlace
first_place place [] = place
first_place place (p ∷ ps) = p

abbrev behind_first : List PairPlace → List PairPlace
behind_first [] = []
behind_first (p ∷ ps) = ps

-- lists of pairs that go through the same places, with one pair at a place, are one
list_once : (pairs others : List CriticalPair) → map place_of_critical_pair pairs ≡ map place_of_critical_pair others
    → ((k : ℕ) (one other : CriticalPair) → slice_get pairs k ≡ Some one → slice_get others k ≡ Some other
    → place_of_critical_pair one ≡ place_of_critical_pair other → one ≡ other) → pairs ≡ others
list_once [] [] same each = refl
list_once [] (other ∷ others) same each = cc
list_once (one ∷ pairs) [] same each = cc
list_once (one ∷ pairs) (other ∷ others) same each =
    let at : place_of_critical_pair one ≡ place_of_critical_pair other =
    ap (λ (ps : List PairPlace). first_place (place_of_critical_pair one) ps) same in
    let first : one ≡ other = each zero one other refl refl at in
    let rest : pairs ≡ others =
    list_once pairs others (ap (λ (ps : List PairPlace). behind_first ps) same) (λ k x y. each (suc k) x y) in
    (λ i. first i ∷ rest i)

pairs_once : (signature : Signature) (rules : List Rule) (pairs others : List CriticalPair) → AreWellFormedRules rules
    → AreCriticalPairs rules pairs → AreCriticalPairs rules others → ArePeaksOf signature pairs → ArePeaksOf signature others
    → pairs ≡ others
pairs_once signature rules pairs others well are also peaks peaks_too =
    list_once pairs others (same_places rules pairs others are also) (λ k one other is is_too at.
    let first = peaks k one is in
    let second = peaks_too k other is_too in
    let sorts : first.0 ≡ second.0 =
    peaks_have_one_sort signature rules well one other (are.critical k one is) (also.critical k other is_too) at first.0 second.0
    first.1 second.1 in
    pairs_unique signature rules one other first.0 well (are.critical k one is) (also.critical k other is_too) at
    (are.numbered k one is) (also.numbered k other is_too) first.1
    (subst (λ (s : ℕ). HasSort signature other.peak s) (sym sorts) second.1))

-- ---- So is the first one that is unjoined

pub record AreSame (first second one two : ℕ) (peak left right top more rest : Term) : Type 0 where
  pub firsts : first ≡ one
  pub seconds : second ≡ two
  pub peaks : peak ≡ top
  pub lefts : left ≡ more
  pub rights : right ≡ rest

pub unjoined_once : (signature : Signature) (rules : List NumberedRule) (first second one two : ℕ)
    (peak left right top more rest : Term) → AreWellFormedRules (rules_of rules)
    → AreUnjoinedBy signature rules first second peak left right → AreUnjoinedBy signature rules one two top more rest
    → AreSame first second one two peak left right top more rest
unjoined_once signature rules first second one two peak left right top more rest well is also = record {
  firsts = is.first_is ∙ ap (λ (p : CriticalPair). equation_at rules p.first) pair ∙ sym also.first_is;
  seconds = is.second_is ∙ ap (λ (p : CriticalPair). equation_at rules p.second) pair ∙ sym also.second_is;
  peaks = is.peak_is ∙ ap (λ (p : CriticalPair). p.peak) pair ∙ sym also.peak_is;
  lefts = once.1;
  rights = once.2;
}
  where
    lists : is.pairs ≡ also.pairs
    lists = pairs_once signature (rules_of rules) is.pairs also.pairs well is.all also.all is.peaks also.peaks

    moved : IsFirstUnjoined (rules_of rules) is.pairs also.number more rest
    moved = subst (λ (ps : List CriticalPair). IsFirstUnjoined (rules_of rules) ps also.number more rest) (sym lists) also.is_first

    once : (is.number ≡ also.number) × (left ≡ more) × (right ≡ rest)
    once = first_unjoined_once (rules_of rules) is.pairs is.number also.number left right more rest well is.is_first moved

    pair : is.is_first.pair ≡ also.is_first.pair
    pair =
        same_Some is.is_first.pair also.is_first.pair
        (sym is.is_first.is_pair
        ∙ (λ i. slice_get (lists i) (once.0 i))
        ∙ also.is_first.is_pair)
