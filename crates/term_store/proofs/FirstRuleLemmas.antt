-- Which rule is the first that matches a term that is kept.
use Rattle.std.proofs.Common.{arith, ◌≡◌, ◌<◌, ◌≤◌, ℕ, zero, suc, List, [], ◌∷◌, length, get_or, Bool, true, false, Option, None, Some, refl, ap, sym, ◌∙◌, subst, inl, inr}
use Rattle.std.specs.Prelude.{slice_get, nat_lt, if◌then◌else◌, ◌⊎◌, MatchOption}
use Rattle.std.specs.Option.{option_map}
use Rattle.std.proofs.lemmas.Bool.{ltb-true, ltb-false}
use Rattle.std.proofs.lemmas.Option.{same_Some, none-some, slice_get_within}
use Rattle.lotos_base.specs.Signature.{Signature}
use Rattle.lotos_base.specs.Term.{Term, Terms, node, term_then}
use Rattle.rewriting_theory.specs.Matching.{Matches}
use Rattle.sort_terms.specs.ProfiledTerm.{ProfiledTerm, profiled_variable, profiled_node, bare, all_bare, IsOf}
use Rattle.sort_terms.specs.SortedView.{profiled_in, term_in}
use Rattle.path_order.specs.HeadIndexView.{numbers_at}
use Rattle.path_order.specs.RuleHead.{has_head, headed}
use Rattle.path_order.specs.RuleView.{rule_of, plain_rules}
use Rattle.path_order.specs.RulesView.{signature_in, plain_rules_in}
use Rattle.path_order.specs.declared.rule.Rule.{Rule}
use Rattle.path_order.specs.declared.rules.Rules.{Rules}
use Rattle.term_rewriter.specs.FirstHead.{first_head, is_open, has_first, numbered_where}
use Rattle.term_rewriter.specs.FirstIndexView.{IsIndexOf}
use Rattle.term_rewriter.specs.declared.first_index.FirstIndex.{FirstIndex}
use Rattle.term_rewriter.proofs.FirstLemmas.{none_matches_variable, tried_none, plain_at, code_at, left_node}
use Rattle.term_rewriter.proofs.HeadLemmas.{where_number, where_has, where_rises, headed_is, match_begins, begins_headed, begins_first}
use Rattle.term_store.specs.Cells.{operation_at, operation_in, members, key_term, key_terms, AreBelow, IsCell, HaveTermsOf}
use Rattle.term_store.specs.FirstRule.{NoRule, IsFirstRuleAt, MatchesNot, NoneAmong, IsFirstAmong, HasAllRules, IsHeadAlone, BeginsAs, Found, found_with, earlier_of}
use Rattle.term_store.specs.NumberSearch.{number_searched}
use Rattle.term_store.specs.Numbered.{term_at, numbered_pairs}
use Rattle.term_store.proofs.CellLemmas.{first_term_of_key, first_cell_at}
use Rattle.term_store.proofs.SearchLemmas.{search_is}

-- ---- The head of a term that is kept

pub record IsVariableAt (t : ProfiledTerm) : Type 0 where
  pub number : ℕ
  pub sort : ℕ
  pub is : t ≡ profiled_variable number sort

pub variable_at : (signature : Signature) (keys : List (List ℕ)) (n : ℕ) → HaveTermsOf signature keys → n < length keys
    → None ≡ operation_in (get_or keys n []) → IsVariableAt (term_at signature keys n)
variable_at signature keys n have inside none =
    subst (λ (t : ProfiledTerm). IsVariableAt t) (sym (first_term_of_key signature keys n have.cells inside))
    (go (get_or keys n []) (first_cell_at keys n have.cells inside) none)
  where
    go : (key : List ℕ) → IsCell n key → None ≡ operation_in key → IsVariableAt (key_term signature (key_terms signature keys) key)
    go [] cell is = absurd cell
    go (zero ∷ ns) cell is = record { number = get_or ns 0 0; sort = get_or ns 1 0; is = refl }
    go (suc m ∷ []) cell is = absurd cell
    go (suc m ∷ f ∷ ns) cell is = cc

pub operation_term : (signature : Signature) (keys : List (List ℕ)) (n f : ℕ) (ns : List ℕ) → HaveTermsOf signature keys
    → n < length keys → Some (f, ns) ≡ operation_in (get_or keys n [])
    → term_at signature keys n ≡ profiled_node f (operation_at signature f) (members (key_terms signature keys) ns)
operation_term signature keys n f ns have inside some =
    first_term_of_key signature keys n have.cells inside
    ∙ go (get_or keys n []) (first_cell_at keys n have.cells inside) (sym some)
  where
    go : (key : List ℕ) → IsCell n key → operation_in key ≡ Some (f, ns)
        → key_term signature (key_terms signature keys) key
        ≡ profiled_node f (operation_at signature f) (members (key_terms signature keys) ns)
    go [] cell is = cc
    go (zero ∷ ms) cell is = cc
    go (suc m ∷ []) cell is = cc
    go (suc m ∷ g ∷ ms) cell is =
        let pair : (g, ms) ≡ (f, ns) = same_Some (g, ms) (f, ns) is in
        ap (λ (p : ℕ × List ℕ). profiled_node p.0 (operation_at signature p.0) (members (key_terms signature keys) p.1)) pair

-- its number is that of an operation of the signature
pub operation_inside : (rules : Rules) (keys : List (List ℕ)) (n f : ℕ) (ns : List ℕ) → HaveTermsOf (signature_in rules) keys
    → n < length keys → Some (f, ns) ≡ operation_in (get_or keys n []) → f < length (signature_in rules).operations
operation_inside rules keys n f ns have inside some =
    let is = subst (λ (t : ProfiledTerm). IsOf (signature_in rules) t) (operation_term (signature_in rules) keys n f ns have inside some)
    (have.of n inside) in
    slice_get_within (signature_in rules).operations f (operation_at (signature_in rules) f) is.0

-- ---- The rules

pub no_rule_variable : (rules : Rules) (keys : List (List ℕ)) (n : ℕ) → HaveTermsOf (signature_in rules) keys → n < length keys
    → None ≡ operation_in (get_or keys n []) → NoRule rules keys n
no_rule_variable rules keys n have inside none =
    let it = variable_at (signature_in rules) keys n have inside none in
    none_matches_variable rules (term_at (signature_in rules) keys n) it.number it.sort (ap bare it.is)

-- the search for a left side finds nothing
pub rule_not : (rules : Rules) (keys : List (List ℕ)) (n number : ℕ) (rule : Rule) → HaveTermsOf (signature_in rules) keys
    → n < length keys → slice_get rules.rules.items number ≡ Some rule → None ≡ number_searched keys (profiled_in rule.left) n []
    → MatchesNot rules keys n number
rule_not rules keys n number rule have inside is none =
    let it = search_is (signature_in rules) keys (profiled_in rule.left) n [] have.cells have.once inside tt in
    tried_none rules (term_at (signature_in rules) keys n) number rule is
    (sym it.same ∙ ap (λ (o : Option (List (ℕ × ℕ))). option_map (numbered_pairs (signature_in rules) keys) o) (sym none))

-- or pairs
pub rule_found : (rules : Rules) (keys : List (List ℕ)) (n : ℕ) (candidates : List ℕ) (i number : ℕ) (rule : Rule) (pairs : List (ℕ × ℕ))
    → HaveTermsOf (signature_in rules) keys → n < length keys
    → ((k m : ℕ) → k < i → slice_get candidates k ≡ Some m → MatchesNot rules keys n m) → slice_get candidates i ≡ Some number
    → slice_get rules.rules.items number ≡ Some rule → Some pairs ≡ number_searched keys (profiled_in rule.left) n []
    → IsFirstAmong rules keys n candidates number pairs
rule_found rules keys n candidates i number rule pairs have inside tried here is found =
    let it = search_is (signature_in rules) keys (profiled_in rule.left) n [] have.cells have.once inside tt in record {
      place = i;
      rule = rule;
      here = here;
      is_at = is;
      tried = tried;
      found = sym it.same ∙ ap (λ (o : Option (List (ℕ × ℕ))). option_map (numbered_pairs (signature_in rules) keys) o) (sym found);
      below = it.within pairs (sym found);
    }

-- ---- Lists of rules

-- a list by a test that all of these rules pass
pub listed : (rules : Rules) (P : Term → Type 0) (test : Term → Bool) (candidates : List ℕ)
    → candidates ≡ numbered_where test 0 (plain_rules_in rules) → ((t : Term) → P t → test t ≡ true) → HasAllRules rules P candidates
listed rules P test candidates are passes = record {
  within = λ i m at.
      let there = where_number test (plain_rules_in rules) i m (ap (λ (ns : List ℕ). slice_get ns i) (sym are) ∙ at) in
      let one = code_at rules.rules.items m there.rule there.is_at in
      slice_get_within rules.rules.items m one.0 one.1;
  has = λ k rule is so.
      let there = where_has test (plain_rules_in rules) k (rule_of rule) (plain_at rules.rules.items k rule is)
      (passes (term_in rule.left) so) in
      (there.0, ap (λ (ns : List ℕ). slice_get ns there.0) are ∙ there.1);
  rises = λ i j k m one two less.
      where_rises test (plain_rules_in rules) i j k m (ap (λ (ns : List ℕ). slice_get ns i) (sym are) ∙ one)
      (ap (λ (ns : List ℕ). slice_get ns j) (sym are) ∙ two) less;
}

-- no rule
pub listed_none : (rules : Rules) (f : ℕ) (first : Option ℕ) → None ≡ first → HasAllRules rules (BeginsAs f first) []
listed_none rules f first none = record {
  within = λ i m at. absurd (none-some m at);
  has = λ k rule is so. let clash : None ≡ Some so.0 = none ∙ so.1 in absurd (none-some so.0 clash);
  rises = λ i j k m one two less. absurd (none-some k one);
}

-- those with an operation at the head and none at the head of the first argument
pub open_rules : (rules : Rules) (index : FirstIndex) (f : ℕ) (candidates : List ℕ) → IsIndexOf rules index
    → candidates ≡ numbers_at index.open f → HasAllRules rules (IsHeadAlone f) candidates
open_rules rules index f candidates is are = listed rules (IsHeadAlone f) (is_open f) candidates (are ∙ is.opens f) (λ t so. so)

-- those with one at the head
pub headed_rules : (rules : Rules) (f g : ℕ) (candidates : List ℕ) → candidates ≡ headed f (plain_rules rules.rules.items)
    → HasAllRules rules (BeginsAs f (Some g)) candidates
headed_rules rules f g candidates are =
    listed rules (BeginsAs f (Some g)) (has_head f) candidates (are ∙ headed_is f (plain_rules rules.rules.items))
    (λ t so. begins_headed f so.0 t so.2)

-- those with one at the head of the first argument
pub first_rules : (rules : Rules) (index : FirstIndex) (f g : ℕ) (candidates : List ℕ) → IsIndexOf rules index
    → candidates ≡ numbers_at index.firsts g → HasAllRules rules (BeginsAs f (Some g)) candidates
first_rules rules index f g candidates is are =
    listed rules (BeginsAs f (Some g)) (has_first g) candidates (are ∙ is.begins g)
    (λ t so.
    subst (λ (h : ℕ). has_first h t ≡ true) (sym (same_Some g so.0 so.1)) (begins_first f so.0 t so.2))

-- ---- The first one among two lists

-- None of these rules before the bound matches the term.
abbrev ArePassed : Rules → List (List ℕ) → ℕ → List ℕ → ℕ → Type 0
ArePassed rules keys n candidates bound = (i m : ℕ) → slice_get candidates i ≡ Some m → m < bound → MatchesNot rules keys n m

passed : (rules : Rules) (keys : List (List ℕ)) (n : ℕ) (P : Term → Type 0) (candidates : List ℕ) (number bound : ℕ)
    (pairs : List (ℕ × ℕ)) → HasAllRules rules P candidates → IsFirstAmong rules keys n candidates number pairs → bound ≤ number
    → ArePassed rules keys n candidates bound
passed rules keys n P candidates number bound pairs all first under = λ i m at less.
    first.tried i m (all.rises i first.place m number at first.here (omega (arith, less, under))) at

none_before : (rules : Rules) (keys : List (List ℕ)) (n f : ℕ) (us : Terms) (opens begun : List ℕ) (bound : ℕ)
    → bare (term_at (signature_in rules) keys n) ≡ node f us → HasAllRules rules (IsHeadAlone f) opens
    → HasAllRules rules (BeginsAs f (first_head us)) begun → ArePassed rules keys n opens bound → ArePassed rules keys n begun bound
    → (k : ℕ) → k < bound → MatchesNot rules keys n k
none_before rules keys n f us opens begun bound shape all others one two k less rule is found =
    go
    (match_begins (term_in rule.left) f us (left_node rules k rule is)
    (subst (λ (u : Term). Matches (term_in rule.left) u) shape found))
  where
    go : IsHeadAlone f (term_in rule.left) ⊎ BeginsAs f (first_head us) (term_in rule.left) → ⊥
    go (inl opens_so) = let at = all.has k rule is opens_so in one at.0 k at.1 less rule is found
    go (inr begins) = let at = others.has k rule is begins in two at.0 k at.1 less rule is found

first_of : (rules : Rules) (keys : List (List ℕ)) (n f : ℕ) (us : Terms) (opens begun candidates : List ℕ) (number : ℕ)
    (pairs : List (ℕ × ℕ)) → bare (term_at (signature_in rules) keys n) ≡ node f us → HasAllRules rules (IsHeadAlone f) opens
    → HasAllRules rules (BeginsAs f (first_head us)) begun → ArePassed rules keys n opens number → ArePassed rules keys n begun number
    → IsFirstAmong rules keys n candidates number pairs → IsFirstRuleAt rules keys n number pairs
first_of rules keys n f us opens begun candidates number pairs shape all others one two first = record {
  is_first = record {
    rule = first.rule;
    is_at = first.is_at;
    found = first.found;
    none_before = λ k earlier less at. none_before rules keys n f us opens begun number shape all others one two k less earlier at;
  };
  below = first.below;
}

pub first_of_two : (rules : Rules) (keys : List (List ℕ)) (n f : ℕ) (us : Terms) (opens begun : List ℕ) (one other : Option Found)
    → bare (term_at (signature_in rules) keys n) ≡ node f us → HasAllRules rules (IsHeadAlone f) opens
    → HasAllRules rules (BeginsAs f (first_head us)) begun
    → MatchOption one (NoneAmong rules keys n opens) (λ found. IsFirstAmong rules keys n opens found.0 found.1)
    → MatchOption other (NoneAmong rules keys n begun) (λ found. IsFirstAmong rules keys n begun found.0 found.1)
    → MatchOption (earlier_of one other) (NoRule rules keys n) (λ found. IsFirstRuleAt rules keys n found.0 found.1)
first_of_two rules keys n f us opens begun None None shape all others first second = λ k rule is.
    none_before rules keys n f us opens begun (suc k) shape all others (λ i m at less. first i m at) (λ i m at less. second i m at) k
    (omega arith) rule is
first_of_two rules keys n f us opens begun None (Some other) shape all others first second =
    first_of rules keys n f us opens begun begun other.0 other.1 shape all others (λ i m at less. first i m at)
    (passed rules keys n (BeginsAs f (first_head us)) begun other.0 other.0 other.1 others second (omega arith)) second
first_of_two rules keys n f us opens begun (Some one) None shape all others first second =
    first_of rules keys n f us opens begun opens one.0 one.1 shape all others
    (passed rules keys n (IsHeadAlone f) opens one.0 one.0 one.1 all first (omega arith)) (λ i m at less. second i m at) first
first_of_two rules keys n f us opens begun (Some one) (Some other) shape all others first second = go (nat_lt other.0 one.0) refl
  where
    go : (b : Bool) → nat_lt other.0 one.0 ≡ b
        → MatchOption (if b then Some other else Some one) (NoRule rules keys n)
        (λ (found : Found). IsFirstRuleAt rules keys n found.0 found.1)
    go true less =
        let before = ltb-true other.0 one.0 less in
        first_of rules keys n f us opens begun begun other.0 other.1 shape all others
        (passed rules keys n (IsHeadAlone f) opens one.0 other.0 one.1 all first (omega (arith, before)))
        (passed rules keys n (BeginsAs f (first_head us)) begun other.0 other.0 other.1 others second (omega arith)) second
    go false less =
        let before = ltb-false other.0 one.0 less in
        first_of rules keys n f us opens begun opens one.0 one.1 shape all others
        (passed rules keys n (IsHeadAlone f) opens one.0 one.0 one.1 all first (omega arith))
        (passed rules keys n (BeginsAs f (first_head us)) begun other.0 one.0 other.1 others second before) first

-- by the number of the rule and its pairs
pub among_found : (rules : Rules) (keys : List (List ℕ)) (n : ℕ) (candidates : List ℕ) (pairs : List (ℕ × ℕ)) (o : Option ℕ)
    → MatchOption o (NoneAmong rules keys n candidates) (λ rule. IsFirstAmong rules keys n candidates rule pairs)
    → MatchOption (found_with o pairs) (NoneAmong rules keys n candidates)
    (λ (found : Found). IsFirstAmong rules keys n candidates found.0 found.1)
among_found rules keys n candidates pairs None is = is
among_found rules keys n candidates pairs (Some rule) is = is

pub of_found : (rules : Rules) (keys : List (List ℕ)) (n : ℕ) (pairs : List (ℕ × ℕ)) (o : Option ℕ)
    → MatchOption (found_with o pairs) (NoRule rules keys n) (λ (found : Found). IsFirstRuleAt rules keys n found.0 found.1)
    → MatchOption o (NoRule rules keys n) (λ rule. IsFirstRuleAt rules keys n rule pairs)
of_found rules keys n pairs None is = is
of_found rules keys n pairs (Some rule) is = is

-- ---- The first of some terms

pub first_variable : (signature : Signature) (keys : List (List ℕ)) (ns : List ℕ) → HaveTermsOf signature keys
    → AreBelow (length keys) ns → 0 < length ns → None ≡ operation_in (get_or keys (get_or ns 0 0) [])
    → None ≡ first_head (all_bare (members (key_terms signature keys) ns))
first_variable signature keys [] have below some none = absurd (omega (arith, some))
first_variable signature keys (n ∷ ns) have below some none =
    let it = variable_at signature keys n have below.0 none in
    ap (λ (t : ProfiledTerm). first_head (term_then (bare t) (all_bare (members (key_terms signature keys) ns)))) (sym it.is)

pub first_is : (signature : Signature) (keys : List (List ℕ)) (ns : List ℕ) (f : ℕ) (ms : List ℕ) → HaveTermsOf signature keys
    → AreBelow (length keys) ns → 0 < length ns → Some (f, ms) ≡ operation_in (get_or keys (get_or ns 0 0) [])
    → Some f ≡ first_head (all_bare (members (key_terms signature keys) ns))
first_is signature keys [] f ms have below some is = absurd (omega (arith, some))
first_is signature keys (n ∷ ns) f ms have below some is =
    ap (λ (t : ProfiledTerm). first_head (term_then (bare t) (all_bare (members (key_terms signature keys) ns))))
    (sym (operation_term signature keys n f ms have below.0 is))
