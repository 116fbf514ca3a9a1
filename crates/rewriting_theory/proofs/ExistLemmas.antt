-- Each set of rules has a list of its critical pairs.
use Rattle.std.proofs.Common.{◌≡◌, ℕ, List, [], ◌∷◌, Bool, true, false, nat_eq, refl, ap, sym, ◌∙◌, subst, inl, inr}
use Rattle.std.specs.Prelude.{◌⊎◌, Option, Some, None, slice_get}
use Rattle.std.proofs.lemmas.Option.{same_Some}
use Rattle.std.proofs.lemmas.Bool.Decides.{Decides-eqb}
use Rattle.lotos_base.specs.Term.{Term, variable, node}
use Rattle.lotos_base.specs.Path.{subterm}
use Rattle.lotos_base.specs.Substitution.{Substitution, substituted}
use Rattle.rewriting_theory.specs.Rule.{Rule, IsNode}
use Rattle.rewriting_theory.specs.Unification.{OccursInEither}
use Rattle.rewriting_theory.specs.CriticalPair.{OverlapPlace, Overlaps, CriticalPair}
use Rattle.rewriting_theory.specs.PairList.{PairPlace, AreCriticalPairs}
use Rattle.rewriting_theory.specs.PairListLaws.{renamed_pair}
use Rattle.rewriting_theory.specs.Places.{places, IsPairOf, IsApartAt, PairsOf, no_place, no_pair, one_pair}
use Rattle.rewriting_theory.proofs.UnifyLemmas.{IsSolution, solution_general}
use Rattle.rewriting_theory.proofs.OverlapLemmas.{combined, combination_unifies, subterm_occurs}
use Rattle.rewriting_theory.proofs.PairLemmas.{past, past_keeps, past_apart, moved_left, pair_at, pair_of, PairAt, same_place}
use Rattle.rewriting_theory.proofs.PlaceListLemmas.{pairs_are_all}
use Rattle.rewriting_theory.proofs.RenumberLemmas.{renamed_critical}
use Rattle.rewriting_theory.proofs.DecideLemmas.{decide_unifier}
use Rattle.rewriting_theory.proofs.NumberLemmas.{numbering_exists}

-- whether two left sides may overlap at a place
abbrev PlaceAt : List Rule → PairPlace → Type 0
PlaceAt rules place = OverlapPlace rules place.first place.second place.path

decide_place : (rules : List Rule) (place : PairPlace) → PlaceAt rules place ⊎ (PlaceAt rules place → ⊥)
decide_place rules place = by_first (slice_get rules place.first) refl
  where
    by_root : (first second : Rule) (part : Term) → slice_get rules place.first ≡ Some first → slice_get rules place.second ≡ Some second
        → subterm place.path first.left ≡ Some part → IsNode part → (b : Bool) → nat_eq place.first place.second ≡ b → (path : List ℕ)
        → place.path ≡ path → PlaceAt rules place ⊎ (PlaceAt rules place → ⊥)
    by_root first second part e1 e2 e3 is true e [] root =
        inr (λ there. there.no_same_root ((Decides-eqb place.first place.second).0 e) root)
    by_root first second part e1 e2 e3 is true e (k ∷ path) root =
        inl (record {
          first_rule = first;
          second_rule = second;
          part = part;
          is_first = e1;
          is_second = e2;
          is_part = e3;
          no_variable = is;
          no_same_root = λ same nil. (let wrong : (k ∷ path) ≡ [] = sym root ∙ nil in cc);
        })
    by_root first second part e1 e2 e3 is false e path root =
        inl (record {
          first_rule = first;
          second_rule = second;
          part = part;
          is_first = e1;
          is_second = e2;
          is_part = e3;
          no_variable = is;
          no_same_root = λ same nil.
              (let test : nat_eq place.first place.second ≡ true = (Decides-eqb place.first place.second).1 same in cc);
        })

    by_node : (first second : Rule) (part : Term) → slice_get rules place.first ≡ Some first → slice_get rules place.second ≡ Some second
        → subterm place.path first.left ≡ Some part → PlaceAt rules place ⊎ (PlaceAt rules place → ⊥)
    by_node first second (variable n s) e1 e2 e3 =
        inr (λ there.
        let firsts : first ≡ there.first_rule = same_Some _ _ (sym e1 ∙ there.is_first) in
        let parts : variable n s ≡ there.part =
        same_Some _ _ (sym e3 ∙ ap (λ (r : Rule). subterm place.path r.left) firsts ∙ there.is_part) in
        subst IsNode (sym parts) there.no_variable)
    by_node first second (node f ts) e1 e2 e3 =
        by_root first second (node f ts) e1 e2 e3 tt (nat_eq place.first place.second) refl place.path refl

    by_part : (first second : Rule) → slice_get rules place.first ≡ Some first → slice_get rules place.second ≡ Some second
        → (o : Option Term) → subterm place.path first.left ≡ o → PlaceAt rules place ⊎ (PlaceAt rules place → ⊥)
    by_part first second e1 e2 None e3 =
        inr (λ there.
        let firsts : first ≡ there.first_rule = same_Some _ _ (sym e1 ∙ there.is_first) in
        let none : None ≡ Some there.part = sym e3 ∙ ap (λ (r : Rule). subterm place.path r.left) firsts ∙ there.is_part in
        cc)
    by_part first second e1 e2 (Some part) e3 = by_node first second part e1 e2 e3

    by_second : (first : Rule) → slice_get rules place.first ≡ Some first → (o : Option Rule) → slice_get rules place.second ≡ o
        → PlaceAt rules place ⊎ (PlaceAt rules place → ⊥)
    by_second first e1 None e2 =
        inr (λ there. let none : None ≡ Some there.second_rule = sym e2 ∙ there.is_second in cc)
    by_second first e1 (Some second) e2 = by_part first second e1 e2 (subterm place.path first.left) refl

    by_first : (o : Option Rule) → slice_get rules place.first ≡ o → PlaceAt rules place ⊎ (PlaceAt rules place → ⊥)
    by_first None e1 = inr (λ there. let none : None ≡ Some there.first_rule = sym e1 ∙ there.is_first in cc)
    by_first (Some first) e1 = by_second first e1 (slice_get rules place.second) refl

-- no unifier, no overlap
no_overlap : {rules : List Rule} {first second : ℕ} {path : List ℕ} (place : OverlapPlace rules first second path)
    → ((others : Substitution) → substituted others place.part ≡ substituted others (moved_left place) → ⊥) → ¬ Overlaps place
no_overlap {path = path} place none overlap =
    none
    (combined (past place.first_rule.left) place.second_rule.left overlap.values overlap.others)
    (combination_unifies (past place.first_rule.left) place.first_rule.left place.second_rule.left place.part overlap.values
    overlap.others
    (past_keeps place.first_rule.left place.second_rule.left)
    (past_apart place.first_rule.left place.second_rule.left)
    (λ n r o. subterm_occurs path place.first_rule.left place.part n r place.is_part o)
    overlap.same)

-- a place without an overlap has none, however it is given
apart_at : (rules : List Rule) (place : PairPlace) (there : PlaceAt rules place) → ¬ Overlaps there → IsApartAt rules place
apart_at rules place there none = λ other overlap.
    let same = same_place other there in
    none (record {
      values = overlap.values;
      others = overlap.others;
      same =
          ap (substituted overlap.values) (sym same.parts)
          ∙ overlap.same
          ∙ ap (λ (r : Rule). substituted overlap.others r.left) same.second_rules;
    })

-- What comes of a place: no overlap, or its pair.
abbrev PlaceAnswer : List Rule → PairPlace → Type 0
PlaceAnswer rules place = ((pair : CriticalPair) × IsPairOf rules place pair) ⊎ IsApartAt rules place

numbered_at : (rules : List Rule) (place : PairPlace) → PairAt rules place.first place.second place.path
    → (pair : CriticalPair) × IsPairOf rules place pair
numbered_at rules place pair =
    let numbering = numbering_exists pair.peak in (
      renamed_pair numbering.number (pair_at place.first place.second place.path pair.peak pair.left pair.right),
      record {
        is_place = refl;
        critical = renamed_critical (pair_at place.first place.second place.path pair.peak pair.left pair.right) numbering.number
            pair.is_pair
            numbering.keeps;
        numbered = numbering.numbered;
      },
    )

place_answer : (rules : List Rule) (place : PairPlace) → PlaceAnswer rules place
place_answer rules place = go (decide_place rules place)
  where
    by_unifier : (there : PlaceAt rules place) → ((values : Substitution) × IsSolution there.part (moved_left there) values)
        ⊎ ((others : Substitution) → substituted others there.part ≡ substituted others (moved_left there) → ⊥) → PlaceAnswer rules place
    by_unifier there (inl (values, solution)) =
        inl (numbered_at rules place
        (pair_of there values
        (solution_general (OccursInEither there.first_rule.left (moved_left there)) there.part (moved_left there) values solution)))
    by_unifier there (inr none) = inr (apart_at rules place there (no_overlap there none))

    go : PlaceAt rules place ⊎ (PlaceAt rules place → ⊥) → PlaceAnswer rules place
    go (inl there) = by_unifier there (decide_unifier there.part (moved_left there))
    go (inr none) = inr (λ there overlap. none there)

pairs_of : (rules : List Rule) (list : List PairPlace) → (pairs : List CriticalPair) × PairsOf rules list pairs
pairs_of rules [] = ([], no_place)
pairs_of rules (place ∷ others) = go (place_answer rules place) (pairs_of rules others)
  where
    go : PlaceAnswer rules place → (pairs : List CriticalPair) × PairsOf rules others pairs
        → (pairs : List CriticalPair) × PairsOf rules (place ∷ others) pairs
    go (inl (pair, is)) (pairs, rest) = (pair ∷ pairs, one_pair is rest)
    go (inr apart) (pairs, rest) = (pairs, no_pair apart rest)

pub list_exists : (rules : List Rule) → (pairs : List CriticalPair) × AreCriticalPairs rules pairs
list_exists rules =
    let found = pairs_of rules (places rules) in
    (found.0, pairs_are_all rules found.0 found.1)
