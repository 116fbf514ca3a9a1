-- Whether the sides of the listed pairs have one chosen form decides confluence.
use Rattle.std.proofs.Common.{◌≡◌, ◌<◌, ℕ, zero, suc, List, [], ◌∷◌, ◌++◌, map, length, get_or, refl, ap, sym, ◌∙◌, subst, arith}
use Rattle.std.specs.Prelude.{Some, None, slice_get}
use Rattle.std.proofs.lemmas.Option.{same_Some}
use Rattle.lotos_base.specs.Signature.{Signature}
use Rattle.lotos_base.specs.Term.{Term}
use Rattle.lotos_base.specs.Sorting.{IsTermOf}
use Rattle.rewriting_theory.specs.Rule.{Rule}
use Rattle.rewriting_theory.specs.Rewriting.{AreConfluent}
use Rattle.rewriting_theory.specs.ChosenForm.{Chosen}
use Rattle.rewriting_theory.specs.CriticalPair.{CriticalPair}
use Rattle.rewriting_theory.specs.PairList.{PairPlace, IsUnjoined}
use Rattle.rewriting_theory.specs.Places.{places, no_place}
use Rattle.rewriting_theory.specs.PairListLaws.{RewritesToTwo}
use Rattle.rewriting_theory.proofs.PairListLemmas.{agreeing_joined, none_unjoined_confluent, unjoined_not_confluent, unjoined_two}
use Rattle.rewriting_theory.proofs.PlaceListLemmas.{pairs_append, pairs_are_all}
use Rattle.path_order.specs.HandedOn.{NumberedRule}
use Rattle.sort_terms.specs.ProfiledTerm.{head_sort}
use Rattle.sort_terms.specs.SortedView.{profiled_in, term_in}
use Rattle.sort_terms.proofs.ProfiledTermLemmas.{fitting_has_sort}
use Rattle.critical_pairs.specs.OverlapPair.{ArePairTermsOf}
use Rattle.path_order.specs.RulesView.{rules_in, plain_rules_in}
use Rattle.path_order.specs.declared.rules.Rules.{Rules}
use Rattle.path_order.proofs.RulesLemmas.{rules_well_formed, rules_end}
use Rattle.critical_pairs.specs.Listing.{named_by, ListsAll, ArePairsOver}
use Rattle.critical_pairs.specs.Extended.{AddsPairsOf}
use Rattle.critical_pairs.specs.Joining.{AreJoinedAt, ArePeaksOf, AreUnjoinedBy, NoneUnjoinedAmong, AnswersFirst}
use Rattle.critical_pairs.specs.PairView.{critical_pair_of, critical_pairs_in, terms_in}
use Rattle.critical_pairs.specs.declared.pair.Pair.{Pair}
use Rattle.critical_pairs.specs.declared.joining.Unjoined.{Unjoined}

-- a pair whose sides have one chosen form is not unjoined
pub agreeing_alone : (rules : Rules) (pair : CriticalPair) (left right : Term) → Chosen (plain_rules_in rules) pair.left left
    → Chosen (plain_rules_in rules) pair.right right → left ≡ right → NoneUnjoinedAmong (plain_rules_in rules) (pair ∷ [])
agreeing_alone rules pair left right one two same zero other t u is unjoined =
    agreeing_joined pair left right t u (rules_well_formed rules) one two same
    (subst (λ (p : CriticalPair). IsUnjoined (plain_rules_in rules) p t u) (sym (same_Some pair other is)) unjoined)
agreeing_alone rules pair left right one two same (suc k) other t u is unjoined = let none : None ≡ Some other = is in cc

-- the numbers of rules do not matter
unjoined_plain : {rules : List Rule} (numbered : List NumberedRule) (pair : CriticalPair) (t u : Term)
    → IsUnjoined rules (named_by numbered pair) t u → IsUnjoined rules pair t u
unjoined_plain numbered pair t u is = record { is_left = is.is_left; is_right = is.is_right; differ = is.differ }

unjoined_named : {rules : List Rule} (numbered : List NumberedRule) (pair : CriticalPair) (t u : Term)
    → IsUnjoined rules pair t u → IsUnjoined rules (named_by numbered pair) t u
unjoined_named numbered pair t u is = record { is_left = is.is_left; is_right = is.is_right; differ = is.differ }

named_there : (numbered : List NumberedRule) (pairs : List CriticalPair) (k : ℕ) (pair : CriticalPair) → slice_get pairs k ≡ Some pair
    → slice_get (map (named_by numbered) pairs) k ≡ Some (named_by numbered pair)
named_there numbered [] k pair is = let none : None ≡ Some pair = is in cc
named_there numbered (p ∷ pairs) zero pair is = ap (λ (q : CriticalPair). Some (named_by numbered q)) (same_Some p pair is)
named_there numbered (p ∷ pairs) (suc k) pair is = named_there numbered pairs k pair is

-- the pair with the numbers of rules
record IsNamed (numbered : List NumberedRule) (pairs : List CriticalPair) (k : ℕ) (named : CriticalPair) : Type 0 where
  pair : CriticalPair
  is_pair : slice_get pairs k ≡ Some pair
  same : named_by numbered pair ≡ named

named_back : (numbered : List NumberedRule) (pairs : List CriticalPair) (k : ℕ) (named : CriticalPair)
    → slice_get (map (named_by numbered) pairs) k ≡ Some named → IsNamed numbered pairs k named
named_back numbered [] k named is = let none : None ≡ Some named = is in cc
named_back numbered (p ∷ pairs) zero named is = record { pair = p; is_pair = refl; same = same_Some (named_by numbered p) named is }
named_back numbered (p ∷ pairs) (suc k) named is =
    let rest = named_back numbered pairs k named is in
    record { pair = rest.pair; is_pair = rest.is_pair; same = rest.same }

-- where no listed pair is unjoined, the rules are confluent
pub joined_rules : (rules : Rules) (found : List Pair) → ListsAll (rules_in rules) (critical_pairs_in found)
    → NoneUnjoinedAmong (plain_rules_in rules) (critical_pairs_in found) → AreConfluent (plain_rules_in rules)
joined_rules rules found listed none =
    none_unjoined_confluent (plain_rules_in rules) listed.plain (rules_well_formed rules) (rules_end rules) listed.all
    (λ k pair t u is unjoined.
    none k (named_by (rules_in rules) pair) t u
    (ap (λ (ps : List CriticalPair). slice_get ps k) (sym listed.named) ∙ named_there (rules_in rules) listed.plain k pair is)
    (unjoined_named (rules_in rules) pair t u unjoined))

-- ---- Pairs joined place by place

pub joined_nothing : (rules : List Rule) → AreJoinedAt rules []
joined_nothing rules = record {
  pairs = [];
  pairs_of = no_place;
  none = λ k pair t u is unjoined. let none : None ≡ Some pair = is in cc;
}

none_append : (rules : List Rule) (pairs others : List CriticalPair) → NoneUnjoinedAmong rules pairs → NoneUnjoinedAmong rules others
    → NoneUnjoinedAmong rules (pairs ++ others)
none_append rules [] others none rest k pair t u is = rest k pair t u is
none_append rules (p ∷ pairs) others none rest zero pair t u is = none 0 pair t u is
none_append rules (p ∷ pairs) others none rest (suc k) pair t u is =
    none_append rules pairs others (λ j q v w e. none (suc j) q v w e) rest k pair t u is

pub joined_then : (rules : List Rule) (one two : List PairPlace) → AreJoinedAt rules one → AreJoinedAt rules two
    → AreJoinedAt rules (one ++ two)
joined_then rules one two first second = record {
  pairs = first.pairs ++ second.pairs;
  pairs_of = pairs_append first.pairs_of second.pairs_of;
  none = none_append rules first.pairs second.pairs first.none second.none;
}

-- the pairs that the code found
pub joined_found : (rules : Rules) (at : List PairPlace) (found : List Pair) → AddsPairsOf rules at [] found
    → NoneUnjoinedAmong (plain_rules_in rules) (critical_pairs_in found) → AreJoinedAt (plain_rules_in rules) at
joined_found rules at found adds none = record {
  pairs = adds.listed.plain;
  pairs_of = adds.listed.pairs_of;
  none = λ k pair t u is unjoined.
      none k (named_by (rules_in rules) pair) t u
      (ap (λ (ps : List CriticalPair). slice_get ps k) (sym adds.listed.named)
      ∙ named_there (rules_in rules) adds.listed.plain k pair is)
      (unjoined_named (rules_in rules) pair t u unjoined);
}

-- where those of all places are, the rules are confluent
pub joined_all : (rules : Rules) → AreJoinedAt (plain_rules_in rules) (places (plain_rules_in rules))
    → AreConfluent (plain_rules_in rules)
joined_all rules joined =
    none_unjoined_confluent (plain_rules_in rules) joined.pairs (rules_well_formed rules) (rules_end rules)
    (pairs_are_all (plain_rules_in rules) joined.pairs joined.pairs_of) joined.none

-- a pair of the code, where the list of what pairs stand for has one
record IsSeen (found : List Pair) (k : ℕ) (seen : CriticalPair) : Type 0 where
  pair : Pair
  is_pair : slice_get found k ≡ Some pair
  same : critical_pair_of pair ≡ seen

seen_back : (found : List Pair) (k : ℕ) (seen : CriticalPair) → slice_get (critical_pairs_in found) k ≡ Some seen → IsSeen found k seen
seen_back [] k seen is = let none : None ≡ Some seen = is in cc
seen_back (p ∷ found) zero seen is = record { pair = p; is_pair = refl; same = same_Some (critical_pair_of p) seen is }
seen_back (p ∷ found) (suc k) seen is =
    let rest = seen_back found k seen is in
    record { pair = rest.pair; is_pair = rest.is_pair; same = rest.same }

-- the peak of a pair of the signature is a term of it
peak_of : (signature : Signature) (pair : Pair) → ArePairTermsOf signature (terms_in pair) → IsTermOf signature (critical_pair_of pair).peak
peak_of signature pair is =
    (head_sort (profiled_in pair.peak), fitting_has_sort signature (profiled_in pair.peak) is.peak pair.peak.fits)

-- so it is with all pairs that were listed
peaks_of : (signature : Signature) (rules : List NumberedRule) (found : List Pair) (listed : ListsAll rules (critical_pairs_in found))
    → ArePairsOver signature found → ArePeaksOf signature listed.plain
peaks_of signature rules found listed over k pair is =
    let seen = seen_back found k (named_by rules pair)
    (ap (λ (ps : List CriticalPair). slice_get ps k) (sym listed.named) ∙ named_there rules listed.plain k pair is) in
    subst (λ (p : CriticalPair). IsTermOf signature p.peak) seen.same (peak_of signature seen.pair (over k seen.pair seen.is_pair))

-- where one is, they are not
pub unjoined_rules : (signature : Signature) (rules : Rules) (found : List Pair) (answer : Unjoined)
    → ListsAll (rules_in rules) (critical_pairs_in found) → ArePairsOver signature found
    → AnswersFirst (plain_rules_in rules) (critical_pairs_in found) answer
    → AreUnjoinedBy signature (rules_in rules) answer.first answer.second (term_in answer.peak) (term_in answer.left)
    (term_in answer.right)
unjoined_rules signature rules found answer listed over first =
    let back = named_back (rules_in rules) listed.plain first.number first.pair
    (ap (λ (ps : List CriticalPair). slice_get ps first.number) listed.named ∙ first.is_pair) in
    let unjoined : IsUnjoined (plain_rules_in rules) back.pair (term_in answer.left) (term_in answer.right) =
    unjoined_plain (rules_in rules) back.pair (term_in answer.left) (term_in answer.right)
    (subst (λ (p : CriticalPair). IsUnjoined (plain_rules_in rules) p (term_in answer.left) (term_in answer.right)) (sym back.same)
    first.answers.unjoined) in
    let critical = listed.all.critical first.number back.pair back.is_pair in
    let peak : term_in answer.peak ≡ back.pair.peak = first.answers.peak_is ∙ ap (λ (p : CriticalPair). p.peak) (sym back.same) in
    record {
      pairs = listed.plain;
      all = listed.all;
      peaks = peaks_of signature (rules_in rules) found listed over;
      number = first.number;
      is_first = record {
        pair = back.pair;
        is_pair = back.is_pair;
        unjoined = unjoined;
        is_first = λ k earlier t u less is other.
            first.none_before k (named_by (rules_in rules) earlier) t u less
            (ap (λ (ps : List CriticalPair). slice_get ps k) (sym listed.named) ∙ named_there (rules_in rules) listed.plain k earlier is)
            (unjoined_named (rules_in rules) earlier t u other);
      };
      first_is = first.answers.first_is ∙ ap (λ (p : CriticalPair). p.first) (sym back.same);
      second_is = first.answers.second_is ∙ ap (λ (p : CriticalPair). p.second) (sym back.same);
      peak_is = peak;
      rewrites =
          subst (λ (w : Term). RewritesToTwo (plain_rules_in rules) w (term_in answer.left)
          (term_in answer.right)) (sym peak)
          (unjoined_two (plain_rules_in rules) back.pair (term_in answer.left) (term_in answer.right) (rules_well_formed rules) critical
          unjoined);
      not_confluent =
          unjoined_not_confluent (plain_rules_in rules) back.pair (term_in answer.left) (term_in answer.right) (rules_well_formed rules)
          critical unjoined;
    }

-- ---- Pairs looked at so far

pub pair_listed : (pairs : List Pair) (k : ℕ) (pair : Pair) → slice_get pairs k ≡ Some pair → slice_get (critical_pairs_in pairs) k
    ≡ Some (critical_pair_of pair)
pair_listed [] k pair is = let none : None ≡ Some pair = is in cc
pair_listed (p ∷ pairs) zero pair is = ap (λ (q : Pair). Some (critical_pair_of q)) (same_Some p pair is)
pair_listed (p ∷ pairs) (suc k) pair is = pair_listed pairs k pair is

-- a pair of a list of one
pub alone : (rules : List Rule) (pair other : CriticalPair) (t u : Term) → NoneUnjoinedAmong rules (pair ∷ []) → pair ≡ other
    → ¬ IsUnjoined rules other t u
alone rules pair other t u none same = none 0 other t u (ap (λ (p : CriticalPair). Some p) same)

pub item_there : (xs : List Pair) (k : ℕ) (x : Pair) → k < length xs → x ≡ get_or xs k x → slice_get xs k ≡ Some x
item_there [] k x less e = absurd (omega (arith, less))
item_there (y ∷ ys) zero x less e = ap (λ (p : Pair). Some p) (sym e)
item_there (y ∷ ys) (suc k) x less e = item_there ys k x (omega (arith, less)) e

pub listed_within : (xs : List Pair) (k : ℕ) (pair : CriticalPair) → slice_get (critical_pairs_in xs) k ≡ Some pair → k < length xs
listed_within [] k pair is = let none : None ≡ Some pair = is in cc
listed_within (x ∷ xs) zero pair is = omega arith
listed_within (x ∷ xs) (suc k) pair is = let rest = listed_within xs k pair is in omega (arith, rest)
