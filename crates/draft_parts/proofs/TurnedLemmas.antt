-- A left draft that is put behind a draft that was turned round makes with it what both sides make.
use Rattle.std.proofs.Common.{◌≡◌, ◌++◌, List, [], ◌∷◌, map, reverse, refl, ap, sym, ◌∙◌, subst, append_assoc, append-nil}
use Rattle.std.specs.Prelude.{zip}
use Rattle.std.proofs.lemmas.List.{map-append, reverse-append, reverse-reverse}
use Rattle.lotos_base.specs.Signature.{Signature}
use Rattle.behaviour_semantics.specs.Behaviour.{Test}
use Rattle.behaviour_semantics.specs.Draft as plain
use Rattle.behaviour_semantics.specs.Join.{both_drafts}
use Rattle.behaviour_semantics.specs.Label.{Label}
use Rattle.behaviour_semantics.specs.Rule.{label_values, pairwise}
use Rattle.behaviour_semantics.specs.Shape.{Shape, both_sides}
use Rattle.behaviour_semantics.proofs.ListLemmas.{Every-append}
use Rattle.sort_terms.specs.ProfiledTerm.{IsOf}
use Rattle.sort_terms.specs.SortedView.{profiled_in, term_in}
use Rattle.sort_terms.specs.declared.sorted.Sorted.{Sorted}
use Rattle.behaviour_tree.specs.BehaviourTerms.{profiles_of}
use Rattle.behaviour_tree.specs.BehaviourView.{terms_of}
use Rattle.behaviour_tree.specs.MoveView.{label_of, shape_of}
use Rattle.behaviour_tree.specs.Over.{AreTermsOf}
use Rattle.lotos_base.specs.Term.{Term}
use Rattle.event_offers.specs.OfferView.{condition_of, condition_profiles, condition_sides, conditions_of, label_profiles, plain_draft}
use Rattle.event_offers.specs.Offers.{AreConditionsOf, IsConditionOf}
use Rattle.event_offers.specs.declared.drafts.Draft.{Draft}
use Rattle.event_offers.proofs.JoinLemmas.{zipped_of}
use Rattle.draft_parts.specs.DraftTerms.{HasTermsOf}
use Rattle.draft_parts.specs.TurnedDrafts.{reversed_draft, put_behind, with_tests_behind, turned_draft, IsTurnedOf}
use Rattle.draft_parts.specs.declared.turned.Turned.{Turned}
use Rattle.draft_parts.proofs.MetLemmas.{Every-reverse}

map-reverse : {X Y : Type 0} (f : X → Y) (xs : List X) → map f (reverse xs) ≡ reverse (map f xs)
map-reverse f [] = refl
map-reverse f (x ∷ xs) =
    ap (map f) (reverse-append (x ∷ []) xs)
    ∙ (map-append f (reverse xs) (x ∷ [])
    ∙ (ap (λ ys. ys ++ f x ∷ []) (map-reverse f xs) ∙ sym (reverse-append (f x ∷ []) (map f xs))))

-- a draft by its four parts
abbrev four : Shape → Label → List Term → List Test → plain.Draft
four shape label leaves conditions = record { shape = shape; label = label; leaves = leaves; conditions = conditions }

pub reversed_is : (draft : Draft) (leaves : List Sorted) (conditions : List (Sorted × Sorted)) → leaves ≡ reverse draft.leaves.items
    → conditions ≡ reverse draft.conditions.items
    → four (shape_of draft.shape) (label_of draft.label) (terms_of leaves) (conditions_of conditions) ≡ reversed_draft (plain_draft draft)
reversed_is draft leaves conditions e f = λ i.
    four (shape_of draft.shape) (label_of draft.label) ((ap (map term_in) e ∙ map-reverse term_in draft.leaves.items) i)
    ((ap (map condition_of) f ∙ map-reverse condition_of draft.conditions.items) i)

pub reversed_over : (signature : Signature) (draft made : Draft) → made.label ≡ draft.label
    → made.leaves.items ≡ reverse draft.leaves.items → made.conditions.items ≡ reverse draft.conditions.items
    → HasTermsOf signature draft → HasTermsOf signature made
reversed_over signature draft made l leaves conditions h = record {
  values = subst (λ label. AreTermsOf signature (label_profiles label)) (sym l) h.values;
  leaves = subst (AreTermsOf signature) (sym (ap (map profiled_in) leaves ∙ map-reverse profiled_in draft.leaves.items))
      (Every-reverse (IsOf signature) (profiles_of draft.leaves.items) h.leaves);
  conditions = subst (AreConditionsOf signature)
      (sym (ap (map condition_sides) conditions ∙ map-reverse condition_sides draft.conditions.items))
      (Every-reverse (IsConditionOf signature) (condition_profiles draft.conditions.items) h.conditions);
}

-- ---- Turned round and back
pub turned_alone : (d : plain.Draft) → with_tests_behind (reversed_draft (reversed_draft d)) [] ≡ d
turned_alone d = λ i. record {
  shape = d.shape;
  label = d.label;
  leaves = reverse-reverse d.leaves i;
  conditions = (append-nil (reverse (reverse d.conditions)) ∙ reverse-reverse d.conditions) i;
}

pub turned_begun : (draft reversed : Draft) (last : List (Sorted × Sorted)) → plain_draft reversed ≡ reversed_draft (plain_draft draft)
    → last ≡ [] → with_tests_behind (reversed_draft (plain_draft reversed)) (conditions_of last) ≡ plain_draft draft
turned_begun draft reversed last e none =
    ap (λ (d : plain.Draft). with_tests_behind (reversed_draft d) (conditions_of last)) e
    ∙ (ap (λ (ps : List (Sorted × Sorted)). with_tests_behind (reversed_draft (reversed_draft (plain_draft draft))) (conditions_of ps)) none
    ∙ turned_alone (plain_draft draft))

pub turned_begun_over : (signature : Signature) (made : Turned) → made.last.items ≡ [] → HasTermsOf signature made.draft
    → IsTurnedOf signature made
turned_begun_over signature made none h = record {
  draft = h;
  last = subst (λ (ps : List (Sorted × Sorted)). AreConditionsOf signature (condition_profiles ps)) (sym none) tt;
}

-- what the left draft makes with the turned one
turned_both : (left right : plain.Draft) (tests : List Test)
    → with_tests_behind (reversed_draft (put_behind right (reversed_draft left)))
    (tests ++ pairwise (label_values left.label) (label_values right.label))
    ≡ both_drafts left (with_tests_behind (reversed_draft right) tests)
turned_both left right tests =
    let met : List Test = pairwise (label_values left.label) (label_values right.label) in
    λ i. record {
      shape = both_sides left.shape right.shape;
      label = left.label;
      leaves = (reverse-append right.leaves (reverse left.leaves)
          ∙ ap (λ (ts : List Term). ts ++ reverse right.leaves) (reverse-reverse left.leaves)) i;
      conditions = (ap (λ (ts : List Test). ts ++ (tests ++ met))
          (reverse-append right.conditions (reverse left.conditions)
          ∙ ap (λ (ts : List Test). ts ++ reverse right.conditions) (reverse-reverse left.conditions))
          ∙ (append_assoc left.conditions (reverse right.conditions) (tests ++ met)
          ∙ (ap (λ (ts : List Test). left.conditions ++ ts) (sym (append_assoc (reverse right.conditions) tests met))
          ∙ sym (append_assoc left.conditions (reverse right.conditions ++ tests) met)))) i;
    }

pub turned_more : (right : Turned) (left turned made : Draft) (last met : List (Sorted × Sorted))
    → plain_draft turned ≡ reversed_draft (plain_draft left)
    → plain_draft made ≡ put_behind (plain_draft right.draft) (plain_draft turned)
    → last ≡ right.last.items ++ met
    → conditions_of met ≡ pairwise (label_values (label_of left.label)) (label_values (label_of right.draft.label))
    → with_tests_behind (reversed_draft (plain_draft made)) (conditions_of last) ≡ both_drafts (plain_draft left) (turned_draft right)
turned_more right left turned made last met t e m is =
    ap (λ (d : plain.Draft). with_tests_behind (reversed_draft d) (conditions_of last)) (e ∙ ap (put_behind (plain_draft right.draft)) t)
    ∙ (ap (with_tests_behind (reversed_draft (put_behind (plain_draft right.draft) (reversed_draft (plain_draft left)))))
    (ap conditions_of m ∙ (map-append condition_of right.last.items met
    ∙ ap (λ (ts : List Test). conditions_of right.last.items ++ ts) is))
    ∙ turned_both (plain_draft left) (plain_draft right.draft) (conditions_of right.last.items))

pub turned_more_over : (signature : Signature) (right made : Turned) (left : Draft) (met : List (Sorted × Sorted))
    → HasTermsOf signature made.draft → made.last.items ≡ right.last.items ++ met
    → condition_profiles met ≡ zip (label_profiles left.label) (label_profiles right.draft.label)
    → HasTermsOf signature left → IsTurnedOf signature right → IsTurnedOf signature made
turned_more_over signature right made left met over m is h k = record {
  draft = over;
  last = subst (AreConditionsOf signature) (sym (ap condition_profiles m ∙ map-append condition_sides right.last.items met))
      (Every-append (IsConditionOf signature) (condition_profiles right.last.items) (condition_profiles met) k.last
      (subst (AreConditionsOf signature) (sym is)
      (zipped_of signature (label_profiles left.label) (label_profiles right.draft.label) h.values k.draft.values)));
}

-- the draft turned back
pub turned_whole : (turned : Turned) (back : Draft) (conditions : List (Sorted × Sorted))
    → plain_draft back ≡ reversed_draft (plain_draft turned.draft) → conditions ≡ back.conditions.items ++ turned.last.items
    → four (shape_of back.shape) (label_of back.label) (terms_of back.leaves.items) (conditions_of conditions) ≡ turned_draft turned
turned_whole turned back conditions e f =
    ap (four (shape_of back.shape) (label_of back.label) (terms_of back.leaves.items))
    (ap conditions_of f ∙ map-append condition_of back.conditions.items turned.last.items)
    ∙ ap (λ (d : plain.Draft). with_tests_behind d (conditions_of turned.last.items)) e

pub turned_whole_over : (signature : Signature) (turned : Turned) (back made : Draft) → made.label ≡ back.label
    → made.leaves.items ≡ back.leaves.items → made.conditions.items ≡ back.conditions.items ++ turned.last.items
    → HasTermsOf signature back → IsTurnedOf signature turned → HasTermsOf signature made
turned_whole_over signature turned back made l leaves conditions h k = record {
  values = subst (λ label. AreTermsOf signature (label_profiles label)) (sym l) h.values;
  leaves = subst (λ (ts : List Sorted). AreTermsOf signature (profiles_of ts)) (sym leaves) h.leaves;
  conditions = subst (AreConditionsOf signature)
      (sym (ap condition_profiles conditions ∙ map-append condition_sides back.conditions.items turned.last.items))
      (Every-append (IsConditionOf signature) (condition_profiles back.conditions.items) (condition_profiles turned.last.items)
      h.conditions k.last);
}
