-- Rules of the code by their numbers, and the pair of two of them at a place.
use Rattle.std.proofs.Common.{◌≡◌, ◌+◌, ◌-◌, ◌<◌, ◌≤◌, ℕ, zero, suc, List, [], ◌∷◌, ◌++◌, map, length, get_or, take, Bool, true, false, nat_eq, refl, ap, sym, ◌∙◌, subst, arith, append-nil}
use Rattle.std.specs.Prelude.{◌&&◌, Some, None, Option, IfSome, IfNone, slice_get, if◌then◌else◌}
use Rattle.std.proofs.lemmas.Option.{same_Some}
use Rattle.std.proofs.lemmas.List.{take_more, map-append}
use Rattle.std.proofs.lemmas.Bool.Decides.{Decides-eqb}
use Rattle.rewriting_theory.specs.Rule.{Rule as PlainRule, IsRuleAt}
use Rattle.rewriting_theory.specs.PairList.{PairPlace}
use Rattle.rewriting_theory.specs.Places.{places_at, places_with, node_paths, is_root}
use Rattle.lotos_base.specs.Term.{Term}
use Rattle.critical_pairs.specs.TwoSides.{pair_with, IsFormedRuleOver}
use Rattle.critical_pairs.specs.OverlapPair.{HaveOneSignature, HaveNoOverlap}
use Rattle.path_order.specs.RuleView.{rule_of, numbered_rules, plain_rules}
use Rattle.path_order.specs.RulesView.{rules_in, plain_rules_in, signature_in}
use Rattle.path_order.specs.RuleSides.{all_sides, sides_of, AreSidesOver}
use Rattle.path_order.specs.declared.rule.Rule.{Rule}
use Rattle.path_order.specs.declared.rules.Rules.{Rules}
use Rattle.path_order.proofs.RulesLemmas.{rules_well_formed}
use Rattle.critical_pairs.specs.Listing.{equation_at}
use Rattle.critical_pairs.specs.Candidates.{all_least}
use Rattle.critical_pairs.specs.Extended.{AddsPairsOf, IsPairAt, paths_in, listed_option}
use Rattle.critical_pairs.specs.NodePlaces.{PlaceOfNode, node_places}
use Rattle.critical_pairs.specs.PairView.{critical_pair_of, terms_in, node_place_of}
use Rattle.critical_pairs.specs.declared.pair.Pair.{Pair}
use Rattle.critical_pairs.specs.declared.places.NodePlace.{NodePlace}
use Rattle.critical_pairs.proofs.ExtendLemmas.{extended_nothing, extended_apart, extended_one, extended_then, extended_along, places_at-append, places_with_more}
use Rattle.critical_pairs.proofs.NodePlaceLemmas.{path_of, place_paths}
use Rattle.critical_pairs.proofs.CandidateLemmas.{IsAtMost, HasIt, all_least_has}
use Rattle.critical_pairs.proofs.SkipLemmas.{skip_rules}

-- ---- Rules by their numbers

-- what stands at the number of a rule
pub record IsRuleThere (xs : List Rule) (k : ℕ) (x : Rule) : Type 0 where
  pub plain : IsRuleAt (plain_rules xs) k (rule_of x)
  pub sides : slice_get (all_sides xs) k ≡ Some (sides_of x)
  pub number : equation_at (numbered_rules xs) k ≡ x.equation

pub rule_there : (xs : List Rule) (k : ℕ) (x : Rule) → k < length xs → x ≡ get_or xs k x → IsRuleThere xs k x
rule_there [] k x less e = absurd (omega (arith, less))
rule_there (y ∷ ys) zero x less e = record {
  plain = ap (λ (z : Rule). Some (rule_of z)) (sym e);
  sides = ap (λ (z : Rule). Some (sides_of z)) (sym e);
  number = ap (λ (z : Rule). z.equation) (sym e);
}
rule_there (y ∷ ys) (suc k) x less e =
    let rest = rule_there ys k x (omega (arith, less)) e in
    record { plain = rest.plain; sides = rest.sides; number = rest.number }

pub plain_there : (xs : List Rule) (k : ℕ) → k < length xs → (rule : PlainRule) × IsRuleAt (plain_rules xs) k rule
plain_there [] k less = absurd (omega (arith, less))
plain_there (y ∷ ys) zero less = (rule_of y, refl)
plain_there (y ∷ ys) (suc k) less = plain_there ys k (omega (arith, less))

pub plain_many : (xs : List Rule) → length (plain_rules xs) ≡ length xs
plain_many [] = refl
plain_many (x ∷ xs) = ap (λ (k : ℕ). suc k) (plain_many xs)

pub take_all : {A : Type 0} (xs : List A) → take (length xs) xs ≡ xs
take_all [] = refl
take_all (x ∷ xs) = ap (λ ys. x ∷ ys) (take_all xs)

-- a rule is over the signature of the rules
pub rule_over : (rules : Rules) (k : ℕ) (x : Rule) → k < length rules.rules.items → x ≡ get_or rules.rules.items k x
    → IsFormedRuleOver (signature_in rules) (sides_of x)
rule_over rules k x less e =
    let there = rule_there rules.rules.items k x less e in
    let over : AreSidesOver (signature_in rules) (sides_of x) = rules.over k (sides_of x) there.sides in
    record {
      left_is_of = over.left_is_of;
      right_is_of = over.right_is_of;
      one_sort = over.one_sort;
      numbers = over.numbers;
      well_formed = rules_well_formed rules (rule_of x) (k, there.plain);
    }

pub one_signature : (rules : Rules) (i j : ℕ) (one two : Rule) → i < length rules.rules.items → j < length rules.rules.items
    → one ≡ get_or rules.rules.items i one → two ≡ get_or rules.rules.items j two
    → HaveOneSignature (sides_of one) (sides_of two)
one_signature rules i j one two first second d e =
    (signature_in rules, rule_over rules i one first d, rule_over rules j two second e)

-- ---- The pair of two rules at a place

-- a rule with itself at the root is no place
pub same_root : (rules : Rules) (i j : ℕ) (path : List ℕ) (found : List Pair) → (nat_eq i j && is_root path) ≡ true
    → AddsPairsOf rules (places_at i j (path ∷ [])) found found
same_root rules i j path found e =
    extended_along rules [] (places_at i j (path ∷ [])) found found (go (nat_eq i j && is_root path) e) (extended_nothing rules found)
  where
    go : (b : Bool) → b ≡ true
        → [] ≡ (if b then places_at i j [] else record { first = i; second = j; path = path } ∷ places_at i j [])
    go true h = refl
    go false h = cc

root_only : (path : List ℕ) → path ≡ [] → is_root path ≡ true
root_only [] e = refl
root_only (k ∷ path) e = cc

-- the pairs with that of another place
pub pair_added : (rules : Rules) (i j : ℕ) (one two : Rule) (path : List ℕ) (found more : List Pair) (o : Option Pair)
    → i < length rules.rules.items → j < length rules.rules.items
    → one ≡ get_or rules.rules.items i one → two ≡ get_or rules.rules.items j two
    → (nat_eq i j && is_root path) ≡ false
    → IfNone o (HaveNoOverlap (sides_of one) (sides_of two) path) → IfSome o (λ pair. IsPairAt one two path pair)
    → more ≡ found ++ listed_option o → AddsPairsOf rules (places_at i j (path ∷ [])) found more
pair_added rules i j one two path found more o first second d e other none some is =
    subst (λ (ps : List Pair). AddsPairsOf rules (places_at i j (path ∷ [])) found ps) (sym is)
    (extended_along rules (place ∷ []) (places_at i j (path ∷ [])) found (found ++ listed_option o)
    (go (nat_eq i j && is_root path) other) (added o none some))
  where
    place : PairPlace
    place = record { first = i; second = j; path = path }

    go : (b : Bool) → b ≡ false
        → record { first = i; second = j; path = path } ∷ []
        ≡ (if b then places_at i j [] else record { first = i; second = j; path = path } ∷ places_at i j [])
    go true h = cc
    go false h = refl

    no_root : i ≡ j → path ≡ [] → ⊥
    no_root same root =
        let yes : (nat_eq i j && is_root path) ≡ true = λ k. (Decides-eqb i j).1 same k && root_only path root k in
        let clash : true ≡ false = sym yes ∙ other in
        cc

    added : (p : Option Pair) → IfNone p (HaveNoOverlap (sides_of one) (sides_of two) path)
        → IfSome p (λ pair. IsPairAt one two path pair)
        → AddsPairsOf rules (record { first = i; second = j; path = path } ∷ []) found (found ++ listed_option p)
    added None apart pair =
        subst (λ (ps : List Pair). AddsPairsOf rules (record { first = i; second = j; path = path } ∷ []) found ps) (sym (append-nil found))
        (extended_apart rules (record { first = i; second = j; path = path }) found
        (apart (plain_rules_in rules) i j (rule_there rules.rules.items i one first d).plain
        (rule_there rules.rules.items j two second e).plain))
    added (Some pair) apart at =
        let one_there = rule_there rules.rules.items i one first d in
        let two_there = rule_there rules.rules.items j two second e in
        let firsts : equation_at (rules_in rules) i ≡ pair.first = one_there.number ∙ sym at.first_number in
        let seconds : equation_at (rules_in rules) j ≡ pair.second = two_there.number ∙ sym at.second_number in
        extended_one rules (record { first = i; second = j; path = path }) found pair (pair_with i j path (terms_in pair))
        (at.terms (plain_rules_in rules) i j one_there.plain two_there.plain no_root)
        (λ k. record {
          first = firsts k;
          second = seconds k;
          path = sym at.is_path k;
          peak = (critical_pair_of pair).peak;
          left = (critical_pair_of pair).left;
          right = (critical_pair_of pair).right;
        })
        (at.over (signature_in rules) (rule_over rules i one first d) (rule_over rules j two second e))

-- the pairs with those of one more place
pub place_more : (rules : Rules) (i j : ℕ) (places : List NodePlace) (k : ℕ) (place : NodePlace) (before middle after : List Pair)
    → k < length places → place ≡ get_or places k place
    → AddsPairsOf rules (places_at i j (paths_in (take k places))) before middle
    → AddsPairsOf rules (places_at i j (place.path.items ∷ [])) middle after
    → AddsPairsOf rules (places_at i j (paths_in (take (k + 1) places))) before after
place_more rules i j places k place before middle after less e so_far one =
    extended_along rules _ _ before after
    (sym (places_at-append i j (paths_in (take k places)) (place.path.items ∷ []))
    ∙ ap (places_at i j)
    (sym (map-append (λ (p : NodePlace). p.path.items) (take k places) (place ∷ []))
    ∙ ap paths_in (ap (λ (p : NodePlace). take k places ++ p ∷ []) e ∙ sym (take_more places k place less))))
    (extended_then rules (places_at i j (paths_in (take k places))) (places_at i j (place.path.items ∷ [])) before middle after so_far one)

-- the paths of the places of the left side are those of its operations
pub places_paths : (places : List NodePlace) (t : Term) → map node_place_of places ≡ node_places [] t → paths_in places ≡ node_paths t
places_paths places t are = paths_of places ∙ ap (map path_of) are ∙ place_paths t
  where
    paths_of : (ps : List NodePlace) → paths_in ps ≡ map path_of (map node_place_of ps)
    paths_of [] = refl
    paths_of (p ∷ ps) = ap (λ qs. p.path.items ∷ qs) (paths_of ps)

-- ---- The pairs of a first rule

-- the number of a second rule found
pub candidate_within : (rules : List PlainRule) (from second : ℕ) (places : List PlaceOfNode) (o : Option ℕ) → o ≡ Some second
    → o ≡ all_least rules from None places → (from ≤ second) × (second < length rules)
candidate_within rules from second places o is found =
    subst (λ (p : Option ℕ). HasIt (λ n. (from ≤ n) × (n < length rules)) p) (sym found ∙ is)
    (all_least_has rules from None places tt)

-- the rules from the first one that was not looked at to the second rule found, and that rule
pub second_more : (rules : Rules) (i : ℕ) (rule : PlainRule) (from second : ℕ) (places : List PlaceOfNode) (paths : List (List ℕ))
    (o : Option ℕ) (before middle after : List Pair) → IsRuleAt (plain_rules_in rules) i rule → node_places [] rule.left ≡ places
    → paths ≡ node_paths rule.left → o ≡ Some second → o ≡ all_least (plain_rules_in rules) from None places
    → AddsPairsOf rules (places_with i rule 0 (take from (plain_rules_in rules))) before middle
    → AddsPairsOf rules (places_at i second paths) middle after
    → AddsPairsOf rules (places_with i rule 0 (take (second + 1) (plain_rules_in rules))) before after
second_more rules i rule from second places paths o before middle after is_first are paths_are is found so_far one =
    let within = candidate_within (plain_rules_in rules) from second places o is found in
    let many : from + (second - from) ≡ second = omega (arith, within.0) in
    let skipped : AddsPairsOf rules (places_with i rule 0 (take (from + (second - from)) (plain_rules_in rules))) before middle =
    skip_rules rules i rule from (second - from) before middle is_first (rules_well_formed rules)
    (λ j less. there j (omega (arith, less, many, within.1)))
    (λ j above less most. none j above (omega (arith, less, many)) most) so_far in
    let other = there second within.1 in
    extended_along rules _ _ before after
    (ap (λ (ps : List (List ℕ)). places_with i rule 0 (take second (plain_rules_in rules)) ++ places_at i second ps) paths_are
    ∙ places_with_more i rule second (plain_rules_in rules) other.0 other.1)
    (extended_then rules (places_with i rule 0 (take second (plain_rules_in rules))) (places_at i second paths) before middle after
    (extended_along rules _ _ before middle
    (ap (λ (k : ℕ). places_with i rule 0 (take k (plain_rules_in rules))) many) skipped)
    one)
  where
    there : (j : ℕ) → j < length (plain_rules_in rules) → (other : PlainRule) × IsRuleAt (plain_rules_in rules) j other
    there j less =
        let many = plain_many rules.rules.items in
        plain_there rules.rules.items j (omega (arith, less, many))

    least : all_least (plain_rules_in rules) from None (node_places [] rule.left) ≡ Some second
    least = ap (all_least (plain_rules_in rules) from None) are ∙ sym found ∙ is

    none : (j : ℕ) → from ≤ j → j < second → IsAtMost (all_least (plain_rules_in rules) from None (node_places [] rule.left)) j → ⊥
    none j above less most =
        let small : second ≤ j = subst (λ (p : Option ℕ). IsAtMost p j) least most in
        omega (arith, small, less)

-- the rules from there to the end, where none is found
pub no_more : (rules : Rules) (i : ℕ) (rule : PlainRule) (from : ℕ) (places : List PlaceOfNode) (o : Option ℕ) (before after : List Pair)
    → IsRuleAt (plain_rules_in rules) i rule → node_places [] rule.left ≡ places → o ≡ None
    → o ≡ all_least (plain_rules_in rules) from None places → from ≤ length rules.rules.items
    → AddsPairsOf rules (places_with i rule 0 (take from (plain_rules_in rules))) before after
    → AddsPairsOf rules (places_with i rule 0 (plain_rules_in rules)) before after
no_more rules i rule from places o before after is_first are is found within so_far =
    let as_many = plain_many rules.rules.items in
    let all : from + (length (plain_rules_in rules) - from) ≡ length (plain_rules_in rules) = omega (arith, within, as_many) in
    extended_along rules _ _ before after
    (ap (λ (k : ℕ). places_with i rule 0 (take k (plain_rules_in rules))) all
    ∙ ap (places_with i rule 0) (take_all (plain_rules_in rules)))
    (skip_rules rules i rule from (length (plain_rules_in rules) - from) before after is_first (rules_well_formed rules)
    (λ j less. plain_there rules.rules.items j (omega (arith, less, all, as_many)))
    (λ j above less most. subst (λ (p : Option ℕ). IsAtMost p j) least most)
    so_far)
  where
    least : all_least (plain_rules_in rules) from None (node_places [] rule.left) ≡ None
    least = ap (all_least (plain_rules_in rules) from None) are ∙ sym found ∙ is

-- the places of the left side of the rule with the number
pub places_of_rule : (rules : Rules) (i : ℕ) (x : Rule) (rule : PlainRule) (places : List NodePlace) → i < length rules.rules.items
    → x ≡ get_or rules.rules.items i x → map node_place_of places ≡ node_places [] (rule_of x).left
    → IsRuleAt (plain_rules_in rules) i rule → map node_place_of places ≡ node_places [] rule.left
places_of_rule rules i x rule places less e are is =
    are ∙ ap (λ (r : PlainRule). node_places [] r.left)
    (same_Some (rule_of x) rule (sym (rule_there rules.rules.items i x less e).plain ∙ is))
