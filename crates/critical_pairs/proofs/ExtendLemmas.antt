-- Lists of pairs with the pairs of more places added.
use Rattle.std.proofs.Common.{◌≡◌, ◌+◌, ℕ, zero, suc, List, [], ◌∷◌, ◌++◌, map, take, Bool, true, false, nat_eq, refl, ap, sym, ◌∙◌, subst, arith, append-nil, append_assoc}
use Rattle.std.specs.Prelude.{◌&&◌, Some, None, slice_get, if◌then◌else◌}
use Rattle.std.proofs.lemmas.List.{map-append}
use Rattle.std.proofs.lemmas.Option.{same_Some}
use Rattle.lotos_base.specs.Signature.{Signature}
use Rattle.rewriting_theory.specs.Rule.{Rule as PlainRule}
use Rattle.rewriting_theory.specs.CriticalPair.{CriticalPair}
use Rattle.rewriting_theory.specs.PairList.{PairPlace}
use Rattle.rewriting_theory.specs.Places.{places_at, places_with, places_from, places, node_paths, is_root, IsApartAt, IsPairOf, no_place, no_pair, one_pair}
use Rattle.rewriting_theory.proofs.PlaceListLemmas.{pairs_append, pairs_are_all}
use Rattle.path_order.specs.HandedOn.{NumberedRule, rules_of}
use Rattle.critical_pairs.specs.OverlapPair.{ArePairTermsOf}
use Rattle.path_order.specs.RulesView.{rules_in, plain_rules_in, signature_in}
use Rattle.path_order.specs.declared.rules.Rules.{Rules}
use Rattle.critical_pairs.specs.Listing.{named_by, ListsAll, AddsPairs, ArePairsOver}
use Rattle.critical_pairs.specs.Extended.{AddsPairsOf}
use Rattle.critical_pairs.specs.PairView.{critical_pair_of, critical_pairs_in, terms_in}
use Rattle.critical_pairs.specs.declared.pair.Pair.{Pair}

pub extends_nothing : (rules : List NumberedRule) (before : List CriticalPair) → AddsPairs rules [] before before
extends_nothing rules before = record { plain = []; pairs_of = no_place; named = append-nil before }

pub extends_then : (rules : List NumberedRule) (one two : List PairPlace) (before middle after : List CriticalPair)
    → AddsPairs rules one before middle → AddsPairs rules two middle after → AddsPairs rules (one ++ two) before after
extends_then rules one two before middle after first second = record {
  plain = first.plain ++ second.plain;
  pairs_of = pairs_append first.pairs_of second.pairs_of;
  named =
      ap (λ (ps : List CriticalPair). before ++ ps) (map-append (named_by rules) first.plain second.plain)
      ∙ sym (append_assoc before (map (named_by rules) first.plain) (map (named_by rules) second.plain))
      ∙ ap (λ (ps : List CriticalPair). ps ++ map (named_by rules) second.plain) first.named
      ∙ second.named;
}

pub extends_apart : (rules : List NumberedRule) (place : PairPlace) (before : List CriticalPair) → IsApartAt (rules_of rules) place
    → AddsPairs rules (place ∷ []) before before
extends_apart rules place before apart = record { plain = []; pairs_of = no_pair apart no_place; named = append-nil before }

pub extends_one : (rules : List NumberedRule) (place : PairPlace) (pair : CriticalPair) (before : List CriticalPair)
    → IsPairOf (rules_of rules) place pair → AddsPairs rules (place ∷ []) before (before ++ named_by rules pair ∷ [])
extends_one rules place pair before is = record { plain = pair ∷ []; pairs_of = one_pair is no_place; named = refl }

-- ---- Lists of the code

pub extended_nothing : (rules : Rules) (before : List Pair) → AddsPairsOf rules [] before before
extended_nothing rules before = record { listed = extends_nothing (rules_in rules) (critical_pairs_in before); over = λ over. over }

pub extended_then : (rules : Rules) (one two : List PairPlace) (before middle after : List Pair) → AddsPairsOf rules one before middle
    → AddsPairsOf rules two middle after → AddsPairsOf rules (one ++ two) before after
extended_then rules one two before middle after first second = record {
  listed = extends_then (rules_in rules) one two (critical_pairs_in before) (critical_pairs_in middle) (critical_pairs_in after)
      first.listed second.listed;
  over = λ over. second.over (first.over over);
}

pub extended_along : (rules : Rules) (one two : List PairPlace) (before after : List Pair) → one ≡ two → AddsPairsOf rules one before after
    → AddsPairsOf rules two before after
extended_along rules one two before after same is = subst (λ (ps : List PairPlace). AddsPairsOf rules ps before after) same is

pub extended_apart : (rules : Rules) (place : PairPlace) (before : List Pair) → IsApartAt (plain_rules_in rules) place
    → AddsPairsOf rules (place ∷ []) before before
extended_apart rules place before apart = record {
  listed = extends_apart (rules_in rules) place (critical_pairs_in before) apart;
  over = λ over.
      over;
}

pub over_more : (signature : Signature) (before : List Pair) (pair : Pair) → ArePairsOver signature before
    → ArePairTermsOf signature (terms_in pair)
    → ArePairsOver signature (before ++ pair ∷ [])
over_more signature [] pair over is zero one e =
    subst (λ (p : Pair). ArePairTermsOf signature (terms_in p)) (same_Some pair one e) is
over_more signature [] pair over is (suc k) one e = let none : None ≡ Some one = e in cc
over_more signature (first ∷ before) pair over is zero one e = over 0 one e
over_more signature (first ∷ before) pair over is (suc k) one e = over_more signature before pair (λ j p f. over (suc j) p f) is k one e

pub extended_one : (rules : Rules) (place : PairPlace) (before : List Pair) (pair : Pair) (plain : CriticalPair)
    → IsPairOf (plain_rules_in rules) place plain → named_by (rules_in rules) plain ≡ critical_pair_of pair
    → ArePairTermsOf (signature_in rules) (terms_in pair) → AddsPairsOf rules (place ∷ []) before (before ++ pair ∷ [])
extended_one rules place before pair plain is named over = record {
  listed = subst (λ (ps : List CriticalPair). AddsPairs (rules_in rules) (place ∷ []) (critical_pairs_in before) ps)
      (ap (λ (p : CriticalPair). critical_pairs_in before ++ p ∷ []) named ∙ sym (map-append critical_pair_of before (pair ∷ [])))
      (extends_one (rules_in rules) place plain (critical_pairs_in before) is);
  over = λ all. over_more (signature_in rules) before pair all over;
}

-- ---- Places of more rules

pub places_at-append : (i j : ℕ) (xs ys : List (List ℕ)) → places_at i j (xs ++ ys) ≡ places_at i j xs ++ places_at i j ys
places_at-append i j [] ys = refl
places_at-append i j (x ∷ xs) ys = go (nat_eq i j && is_root x) (places_at-append i j xs ys)
  where
    go : (b : Bool) → places_at i j (xs ++ ys) ≡ places_at i j xs ++ places_at i j ys
        → (if b then places_at i j (xs ++ ys) else record { first = i; second = j; path = x } ∷ places_at i j (xs ++ ys))
        ≡ (if b then places_at i j xs else record { first = i; second = j; path = x } ∷ places_at i j xs) ++ places_at i j ys
    go true rest = rest
    go false rest = ap (λ ps. record { first = i; second = j; path = x } ∷ ps) rest

with_more : (i : ℕ) (rule : PlainRule) (m k : ℕ) (rules : List PlainRule) (other : PlainRule) → slice_get rules k ≡ Some other
    → places_with i rule m (take (suc k) rules) ≡ places_with i rule m (take k rules) ++ places_at i (m + k) (node_paths rule.left)
with_more i rule m k [] other e = let none : None ≡ Some other = e in cc
with_more i rule m zero (one ∷ rules) other e =
    append-nil (places_at i m (node_paths rule.left)) ∙ ap (λ (j : ℕ). places_at i j (node_paths rule.left)) (omega arith)
with_more i rule m (suc k) (one ∷ rules) other e =
    ap (λ (ps : List PairPlace). places_at i m (node_paths rule.left) ++ ps) (with_more i rule (suc m) k rules other e)
    ∙ sym (append_assoc (places_at i m (node_paths rule.left)) (places_with i rule (suc m) (take k rules))
    (places_at i (suc m + k) (node_paths rule.left)))
    ∙ ap (λ (j : ℕ). (places_at i m (node_paths rule.left) ++ places_with i rule (suc m) (take k rules))
    ++ places_at i j (node_paths rule.left)) (omega arith)

-- the places of a first rule with one more second rule
pub places_with_more : (i : ℕ) (rule : PlainRule) (k : ℕ) (rules : List PlainRule) (other : PlainRule) → slice_get rules k ≡ Some other
    → places_with i rule 0 (take k rules) ++ places_at i k (node_paths rule.left) ≡ places_with i rule 0 (take (k + 1) rules)
places_with_more i rule k rules other e =
    let zero_first : k ≡ 0 + k = omega arith in
    let one_last : suc k ≡ k + 1 = omega arith in
    ap (λ (j : ℕ). places_with i rule 0 (take k rules) ++ places_at i j (node_paths rule.left)) zero_first
    ∙ sym (with_more i rule 0 k rules other e)
    ∙ ap (λ (j : ℕ). places_with i rule 0 (take j rules)) one_last

from_more : (all : List PlainRule) (m k : ℕ) (rules : List PlainRule) (rule : PlainRule) → slice_get rules k ≡ Some rule
    → places_from all m (take (suc k) rules) ≡ places_from all m (take k rules) ++ places_with (m + k) rule 0 all
from_more all m k [] rule e = let none : None ≡ Some rule = e in cc
from_more all m zero (one ∷ rules) rule e =
    append-nil (places_with m one 0 all)
    ∙ (λ i. places_with m (same_Some one rule e i) 0 all)
    ∙ ap (λ (j : ℕ). places_with j rule 0 all) (omega arith)
from_more all m (suc k) (one ∷ rules) rule e =
    ap (λ (ps : List PairPlace). places_with m one 0 all ++ ps) (from_more all (suc m) k rules rule e)
    ∙ sym (append_assoc (places_with m one 0 all) (places_from all (suc m) (take k rules)) (places_with (suc m + k) rule 0 all))
    ∙ ap (λ (j : ℕ). (places_with m one 0 all ++ places_from all (suc m) (take k rules)) ++ places_with j rule 0 all) (omega arith)

-- the places of the first rules, one more
pub places_from_more : (all : List PlainRule) (k : ℕ) (rule : PlainRule) → slice_get all k ≡ Some rule
    → places_from all 0 (take k all) ++ places_with k rule 0 all ≡ places_from all 0 (take (k + 1) all)
places_from_more all k rule e =
    let zero_first : k ≡ 0 + k = omega arith in
    let one_last : suc k ≡ k + 1 = omega arith in
    ap (λ (j : ℕ). places_from all 0 (take k all) ++ places_with j rule 0 all) zero_first
    ∙ sym (from_more all 0 k all rule e)
    ∙ ap (λ (j : ℕ). places_from all 0 (take j all)) one_last

-- ---- The end

-- the pairs of all places are all pairs
pub extended_all : (rules : Rules) (found : List Pair) → AddsPairsOf rules (places (plain_rules_in rules)) [] found
    → ListsAll (rules_in rules) (critical_pairs_in found)
extended_all rules found is = record {
  plain = is.listed.plain;
  all = pairs_are_all (plain_rules_in rules) is.listed.plain is.listed.pairs_of;
  named = is.listed.named;
}

pub nothing_over : (signature : Signature) → ArePairsOver signature []
nothing_over signature k pair e = let none : None ≡ Some pair = e in cc
