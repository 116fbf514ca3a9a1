-- The first rule that matches, found among the rules with the operation at the head.
use Rattle.std.proofs.Common.{◌≡◌, ℕ, zero, suc, ◌<◌, List, [], ◌∷◌, length, get_or, Bool, true, false, refl, ap, sym, ◌∙◌, subst, arith}
use Rattle.std.specs.Prelude.{Some, None, slice_get}
use Rattle.std.proofs.lemmas.Option.{same_Some, slice_get_within}
use Rattle.lotos_base.proofs.Members.{at_map}
use Rattle.lotos_base.specs.Term.{Term, variable, node, Terms}
use Rattle.rewriting_theory.specs.Rule.{Rule as PlainRule, IsNode}
use Rattle.rewriting_theory.specs.Matching.{Matches}
use Rattle.sort_terms.specs.ProfiledTerm.{ProfiledTerm, bare}
use Rattle.sort_terms.specs.SortedView.{profiled_in, term_in}
use Rattle.term_match.specs.Matched.{TermHasOneSortPerNumber}
use Rattle.term_match.specs.Search.{searched}
use Rattle.term_match.proofs.SearchLemmas.{search_complete}
use Rattle.path_order.specs.RuleHead.{has_head, headed}
use Rattle.path_order.specs.RuleSides.{sides_of, all_sides, AreSidesOver}
use Rattle.path_order.specs.RuleView.{rule_of, plain_rules}
use Rattle.path_order.specs.RulesView.{signature_in}
use Rattle.path_order.specs.declared.rule.Rule.{Rule}
use Rattle.path_order.specs.declared.rules.Rules.{Rules}
use Rattle.path_order.proofs.RulesLemmas.{rules_well_formed}
use Rattle.term_rewriter.specs.FirstMatch.{NoneMatches, IsFirstMatch}
use Rattle.term_rewriter.proofs.HeadLemmas.{headed_number, headed_has, headed_rises, other_head, no_variable}

-- ---- a search that finds nothing

pub no_search : (l t : ProfiledTerm) → TermHasOneSortPerNumber (bare l) → searched l t [] ≡ None → ¬ Matches (bare l) (bare t)
no_search l t one e found =
    let there = search_complete (bare l) found.0 one l t [] (λ n s o. o) found.1 (λ n s u o h. cc) in
    let clash : None ≡ Some there.0 = sym e ∙ there.1 in cc

-- ---- rules of the code and plain ones

pub plain_at : (rules : List Rule) (k : ℕ) (rule : Rule) → slice_get rules k ≡ Some rule
    → slice_get (plain_rules rules) k ≡ Some (rule_of rule)
plain_at [] k rule is = cc
plain_at (first ∷ rules) zero rule is = ap (λ (r : Rule). Some (rule_of r)) (same_Some first rule is)
plain_at (first ∷ rules) (suc k) rule is = plain_at rules k rule is

pub code_at : (rules : List Rule) (k : ℕ) (rule : PlainRule) → slice_get (plain_rules rules) k ≡ Some rule
    → (one : Rule) × (slice_get rules k ≡ Some one) × (rule_of one ≡ rule)
code_at [] k rule is = cc
code_at (first ∷ rules) zero rule is = (first, refl, same_Some (rule_of first) rule is)
code_at (first ∷ rules) (suc k) rule is = code_at rules k rule is

pub sides_at : (rules : List Rule) (k : ℕ) (rule : Rule) → slice_get rules k ≡ Some rule
    → slice_get (all_sides rules) k ≡ Some (sides_of rule)
sides_at rules k rule is = at_map sides_of rules k rule is

pub at_index : (rules : List Rule) (k : ℕ) (rule : Rule) → k < length rules → rule ≡ get_or rules k rule → slice_get rules k ≡ Some rule
at_index [] k rule within is = absurd (omega arith)
at_index (first ∷ rules) zero rule within is = ap (λ (r : Rule). Some r) (sym is)
at_index (first ∷ rules) (suc k) rule within is = at_index rules k rule (omega arith) is

-- what a rule of the rules is over
pub rule_over : (rules : Rules) (k : ℕ) (rule : Rule) → slice_get rules.rules.items k ≡ Some rule
    → AreSidesOver (signature_in rules) (sides_of rule)
rule_over rules k rule is = rules.over k (sides_of rule) (sides_at rules.rules.items k rule is)

pub left_node : (rules : Rules) (k : ℕ) (rule : Rule) → slice_get rules.rules.items k ≡ Some rule → IsNode (term_in rule.left)
left_node rules k rule is = (rules_well_formed rules (rule_of rule) (k, plain_at rules.rules.items k rule is)).left_node

-- ---- the rules that were tried

-- The rule with this number does not match.
abbrev pub DoesNotMatch : Rules → ProfiledTerm → ℕ → Type 0
DoesNotMatch rules t m = (rule : Rule) → slice_get rules.rules.items m ≡ Some rule → ¬ Matches (term_in rule.left) (bare t)

-- The first so many of these rules do not match.
abbrev pub AreTried : Rules → ProfiledTerm → List ℕ → ℕ → Type 0
AreTried rules t candidates i = (k m : ℕ) → k < i → slice_get candidates k ≡ Some m → DoesNotMatch rules t m

pub tried_none : (rules : Rules) (t : ProfiledTerm) (m : ℕ) (rule : Rule) → slice_get rules.rules.items m ≡ Some rule
    → searched (profiled_in rule.left) t [] ≡ None → DoesNotMatch rules t m
tried_none rules t m rule is e other at =
    let same : rule ≡ other = same_Some rule other (sym is ∙ at) in
    subst (λ (r : Rule). ¬ Matches (term_in r.left) (bare t)) same
    (no_search (profiled_in rule.left) t (rule_over rules m rule is).numbers e)

-- the number of a candidate is that of a rule
pub candidate_within : (rules : Rules) (f : ℕ) (candidates : List ℕ) (i m : ℕ) → candidates ≡ headed f (plain_rules rules.rules.items)
    → slice_get candidates i ≡ Some m → m < length rules.rules.items
candidate_within rules f candidates i m are is =
    let at = headed_number f (plain_rules rules.rules.items) i m (ap (λ (ns : List ℕ). slice_get ns i) (sym are) ∙ is) in
    let one = code_at rules.rules.items m at.rule at.is_at in
    slice_get_within rules.rules.items m one.0 one.1

-- no rule that is before one of them, or none at all, matches
not_before : (rules : Rules) (f : ℕ) (operation_us : Terms) (t : ProfiledTerm) (candidates : List ℕ) (i : ℕ)
    → bare t ≡ node f operation_us → candidates ≡ headed f (plain_rules rules.rules.items) → AreTried rules t candidates i
    → (k : ℕ) (rule : Rule) → slice_get rules.rules.items k ≡ Some rule
    → ((j : ℕ) → slice_get candidates j ≡ Some k → j < i) → ¬ Matches (term_in rule.left) (bare t)
not_before rules f us t candidates i shape are tried k rule is before = go (has_head f (term_in rule.left)) refl
  where
    go : (b : Bool) → has_head f (term_in rule.left) ≡ b → ¬ Matches (term_in rule.left) (bare t)
    go true head =
        let at = headed_has f (plain_rules rules.rules.items) k (rule_of rule) (plain_at rules.rules.items k rule is) head in
        let there : slice_get candidates at.0 ≡ Some k = ap (λ (ns : List ℕ). slice_get ns at.0) are ∙ at.1 in
        tried at.0 k (before at.0 there) there rule is
    go false head =
        subst (λ (u : Term). ¬ Matches (term_in rule.left) u) (sym shape)
        (other_head f (term_in rule.left) us (left_node rules k rule is) head)

pub none_matches : (rules : Rules) (f : ℕ) (us : Terms) (t : ProfiledTerm) (candidates : List ℕ) (i : ℕ) → bare t ≡ node f us
    → candidates ≡ headed f (plain_rules rules.rules.items) → AreTried rules t candidates i → length candidates ≡ i
    → NoneMatches rules.rules.items t
none_matches rules f us t candidates i shape are tried all k rule is =
    not_before rules f us t candidates i shape are tried k rule is
    (λ j at. let within : j < length candidates = slice_get_within candidates j k at in omega (arith, within, all))

pub is_first : (rules : Rules) (f : ℕ) (us : Terms) (t : ProfiledTerm) (candidates : List ℕ) (i m : ℕ) (rule : Rule)
    (pairs : List (ℕ × ProfiledTerm)) → bare t ≡ node f us → candidates ≡ headed f (plain_rules rules.rules.items)
    → AreTried rules t candidates i → slice_get candidates i ≡ Some m → slice_get rules.rules.items m ≡ Some rule
    → searched (profiled_in rule.left) t [] ≡ Some pairs → IsFirstMatch rules.rules.items m t pairs
is_first rules f us t candidates i m rule pairs shape are tried here is found = record {
  rule = rule;
  is_at = is;
  found = found;
  none_before = λ k earlier less at. not_before rules f us t candidates i shape are tried k earlier at
      (λ j there. headed_rises f (plain_rules rules.rules.items) j i k m
      (ap (λ (ns : List ℕ). slice_get ns j) (sym are) ∙ there) (ap (λ (ns : List ℕ). slice_get ns i) (sym are) ∙ here) less);
}

-- no left side matches a variable
pub none_matches_variable : (rules : Rules) (t : ProfiledTerm) (n s : ℕ) → bare t ≡ variable n s → NoneMatches rules.rules.items t
none_matches_variable rules t n s shape k rule is =
    subst (λ (u : Term). ¬ Matches (term_in rule.left) u) (sym shape) (no_variable (term_in rule.left) n s (left_node rules k rule is))
