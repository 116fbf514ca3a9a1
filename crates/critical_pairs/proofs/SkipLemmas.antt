-- Rules whose left sides have none of the operations at their heads do not overlap.
use Rattle.std.proofs.Common.{◌≡◌, ◌≤◌, ◌<◌, ◌+◌, ℕ, zero, suc, List, [], ◌∷◌, ◌++◌, map, take, Bool, true, false, nat_eq, refl, ap, sym, ◌∙◌, subst, inl, inr, arith}
use Rattle.std.specs.Cmp.Derive.{both_true}
use Rattle.std.specs.Prelude.{◌&&◌, Option, Some, None, if◌then◌else◌}
use Rattle.std.proofs.lemmas.Option.{same_Some}
use Rattle.std.proofs.lemmas.Bool.Decides.{Decides-eqb}
use Rattle.lotos_base.specs.Term.{Term, variable, node, Terms, no_terms, term_then}
use Rattle.lotos_base.specs.Path.{subterm}
use Rattle.lotos_base.specs.Substitution.{Substitution, substituted, all_substituted}
use Rattle.rewriting_theory.specs.Rule.{Rule as PlainRule, IsRuleAt, IsNode, AreWellFormedRules}
use Rattle.rewriting_theory.specs.Places.{places_at, places_with, is_root, IsApartAt}
use Rattle.rewriting_theory.proofs.PlaceListLemmas.{IsIn}
use Rattle.path_order.specs.RulesView.{plain_rules_in}
use Rattle.path_order.specs.declared.rules.Rules.{Rules}
use Rattle.critical_pairs.specs.Candidates.{all_least}
use Rattle.critical_pairs.specs.Extended.{AddsPairsOf}
use Rattle.term_store.specs.HandedOn.{first_head, may_meet, may_overlap}
use Rattle.critical_pairs.specs.NodePlaces.{PlaceOfNode, node_places, IsHeadAt}
use Rattle.critical_pairs.specs.declared.pair.Pair.{Pair}
use Rattle.critical_pairs.proofs.NodePlaceLemmas.{path_of, place_paths, place_heads}
use Rattle.critical_pairs.proofs.CandidateLemmas.{IsAtMost, all_least_finds}
use Rattle.critical_pairs.proofs.ExtendLemmas.{extended_nothing, extended_then, extended_along, extended_apart, places_with_more}

-- lists of terms with one instance do not begin with different operations
firsts_meet : (ts us : Terms) (values others : Substitution) → all_substituted values ts ≡ all_substituted others us
    → may_meet (first_head ts) (first_head us) ≡ true
firsts_meet no_terms us values others same = refl
firsts_meet (term_then (variable n s) ts) us values others same = refl
firsts_meet (term_then (node f vs) ts) no_terms values others same = refl
firsts_meet (term_then (node f vs) ts) (term_then (variable n s) us) values others same = refl
firsts_meet (term_then (node f vs) ts) (term_then (node g ws) us) values others same =
    let heads : f ≡ g = cc in (Decides-eqb g f).1 (sym heads)

-- so terms with one instance may overlap
instances_overlap : (f : ℕ) (ts : Terms) (t : Term) (h : ℕ) (first : Option ℕ) (values others : Substitution) → IsNode t → f ≡ h
    → first_head ts ≡ first → substituted values (node f ts) ≡ substituted others t → may_overlap h first t ≡ true
instances_overlap f ts (variable n s) h first values others is same begins e = absurd is
instances_overlap f ts (node g us) h first values others is same begins e =
    let heads : f ≡ g = cc in
    let tails : all_substituted values ts ≡ all_substituted others us = cc in
    both_true ((Decides-eqb g h).1 (sym heads ∙ same))
    (subst (λ (o : Option ℕ). may_meet o (first_head us) ≡ true) begins (firsts_meet ts us values others tails))

-- where they may not, the left sides do not overlap
pub head_apart : (rules : List PlainRule) (i j : ℕ) (first second : PlainRule) (place : PlaceOfNode) → IsRuleAt rules i first
    → IsRuleAt rules j second → AreWellFormedRules rules → IsHeadAt first.left place
    → may_overlap place.head place.first second.left ≡ false
    → IsApartAt rules (record { first = i; second = j; path = place.path })
head_apart rules i j first second place is_first is_second well head other there overlaps =
    let firsts : there.first_rule ≡ first = same_Some there.first_rule first (sym there.is_first ∙ is_first) in
    let seconds : there.second_rule ≡ second = same_Some there.second_rule second (sym there.is_second ∙ is_second) in
    go there.part there.no_variable (sym (ap (λ (r : PlainRule). subterm place.path r.left) firsts) ∙ there.is_part)
    (overlaps.same ∙ ap (λ (r : PlainRule). substituted overlaps.others r.left) seconds)
  where
    go : (part : Term) → IsNode part → subterm place.path first.left ≡ Some part
        → substituted overlaps.values part ≡ substituted overlaps.others second.left → ⊥
    go (variable n s) is at same = absurd is
    go (node f ts) is at same =
        let here = head f ts at in
        let yes : may_overlap place.head place.first second.left ≡ true =
        instances_overlap f ts second.left place.head place.first overlaps.values overlaps.others
        (well second (j, is_second)).left_node here.0 here.1 same in
        let clash : true ≡ false = sym yes ∙ other in
        cc

-- a rule that no place may overlap adds no pair
skip_places : (rules : Rules) (i j : ℕ) (first second : PlainRule) (places : List PlaceOfNode) (before : List Pair)
    → IsRuleAt (plain_rules_in rules) i first → IsRuleAt (plain_rules_in rules) j second → AreWellFormedRules (plain_rules_in rules)
    → ((place : PlaceOfNode) → IsIn place places → IsHeadAt first.left place × (may_overlap place.head place.first second.left ≡ false))
    → AddsPairsOf rules (places_at i j (map path_of places)) before before
skip_places rules i j first second [] before is_first is_second well each = extended_nothing rules before
skip_places rules i j first second (place ∷ places) before is_first is_second well each =
    go (nat_eq i j && is_root place.path)
    (skip_places rules i j first second places before is_first is_second well (λ p is. each p (inr is)))
  where
    go : (b : Bool) → AddsPairsOf rules (places_at i j (map path_of places)) before before
        → AddsPairsOf rules (if b then places_at i j (map path_of places)
        else record { first = i; second = j; path = place.path } ∷ places_at i j (map path_of places)) before before
    go true rest = rest
    go false rest =
        extended_then rules (record { first = i; second = j; path = place.path } ∷ []) (places_at i j (map path_of places)) before before
        before
        (extended_apart rules (record { first = i; second = j; path = place.path }) before
        (head_apart (plain_rules_in rules) i j first second place is_first is_second well (each place (inl refl)).0
        (each place (inl refl)).1))
        rest

-- where the least rule that may overlap is greater, this one may not
no_head : (rules : List PlainRule) (places : List PlaceOfNode) (from j : ℕ) (second : PlainRule) (place : PlaceOfNode)
    → IsRuleAt rules j second → IsIn place places → from ≤ j → (IsAtMost (all_least rules from None places) j → ⊥)
    → may_overlap place.head place.first second.left ≡ false
no_head rules places from j second place is_second is above none = go (may_overlap place.head place.first second.left) refl
  where
    go : (b : Bool) → may_overlap place.head place.first second.left ≡ b → b ≡ false
    go true test = absurd (none (all_least_finds rules from None places j place second is is_second test above))
    go false test = refl

-- so each rule before the least one that may overlap adds no pair
pub skip_rules : (rules : Rules) (i : ℕ) (first : PlainRule) (from many : ℕ) (before after : List Pair)
    → IsRuleAt (plain_rules_in rules) i first → AreWellFormedRules (plain_rules_in rules)
    → ((j : ℕ) → j < from + many → (second : PlainRule) × IsRuleAt (plain_rules_in rules) j second)
    → ((j : ℕ) → from ≤ j → j < from + many
    → IsAtMost (all_least (plain_rules_in rules) from None (node_places [] first.left)) j → ⊥)
    → AddsPairsOf rules (places_with i first 0 (take from (plain_rules_in rules))) before after
    → AddsPairsOf rules (places_with i first 0 (take (from + many) (plain_rules_in rules))) before after
skip_rules rules i first from zero before after is_first well there none is =
    extended_along rules _ _ before after
    (ap (λ (k : ℕ). places_with i first 0 (take k (plain_rules_in rules))) (omega arith)) is
skip_rules rules i first from (suc many) before after is_first well there none is =
    let so_far = skip_rules rules i first from many before after is_first well (λ j less. there j (omega (arith, less)))
    (λ j above less. none j above (omega (arith, less))) is in
    let second = there (from + many) (omega arith) in
    let more : AddsPairsOf rules (places_at i (from + many) (map path_of (node_places [] first.left))) after after =
    skip_places rules i (from + many) first second.0 (node_places [] first.left) after is_first second.1 well
    (λ place at. (
      place_heads first.left place at,
      no_head (plain_rules_in rules) (node_places [] first.left) from (from + many) second.0 place second.1 at (omega arith)
          (none (from + many) (omega arith) (omega arith)),
    )) in
    extended_along rules _ _ before after
    (ap (λ (paths : List (List ℕ)). places_with i first 0 (take (from + many) (plain_rules_in rules)) ++ places_at i (from + many) paths)
    (place_paths first.left)
    ∙ places_with_more i first (from + many) (plain_rules_in rules) second.0 second.1
    ∙ ap (λ (k : ℕ). places_with i first 0 (take k (plain_rules_in rules))) (omega arith))
    (extended_then rules (places_with i first 0 (take (from + many) (plain_rules_in rules)))
    (places_at i (from + many) (map path_of (node_places [] first.left))) before after after so_far more)
