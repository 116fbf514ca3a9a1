-- The draft of both sides is the join, and in order over the signature that the sides are over.
use Rattle.std.proofs.Common.{◌≡◌, ◌++◌, ℕ, ◌+◌, List, [], ◌∷◌, length, map, Option, None, Some, Bool, true, false, ◌&&◌, nat_eq, nat_lt, if◌then◌else◌, refl, ap, sym, ◌∙◌, subst, arith, le-ltb, ◌≤◌}
use Rattle.std.specs.Prelude.{zip}
use Rattle.std.proofs.lemmas.List.{length-map}
use Rattle.lotos_base.specs.Signature.{Signature}
use Rattle.lotos_base.specs.Sorting.{head_sort_of}
use Rattle.lotos_base.specs.Term.{Term, variable}
use Rattle.lotos_base.specs.Substitution.{Substitution}
use Rattle.behaviour_semantics.specs.Behaviour.{all_gates}
use Rattle.behaviour_semantics.specs.Draft as plain
use Rattle.behaviour_semantics.specs.Draft.{draft_with}
use Rattle.behaviour_semantics.specs.Join.{both_drafts, join_of_drafts, raised}
use Rattle.behaviour_semantics.specs.Rule.{is_same_known_sort, have_same_sorts, move_together}
use Rattle.behaviour_semantics.specs.DraftOrder.{IsInOrder}
use Rattle.behaviour_semantics.specs.WellFormed.{Every}
use Rattle.behaviour_semantics.proofs.ListLemmas.{Every-append}
use Rattle.behaviour_semantics.specs.JoinLaws.{SidesMayBeSolvedBefore}
use Rattle.behaviour_semantics.proofs.SolvedSides.{solved_sides}
use Rattle.sort_terms.specs.NoEquations.{data_without_equations}
use Rattle.sort_terms.specs.ProfiledTerm.{ProfiledTerm, profiled_variable, profiled_node, bare, head_sort, IsOf}
use Rattle.sort_terms.specs.declared.sorted.Sorted.{Sorted}
use Rattle.sort_terms.specs.SortedView.{profiled_in, term_in}
use Rattle.term_match.specs.ProfiledInstance.{profiled_instance}
use Rattle.behaviour_tree.specs.BehaviourTerms.{profiles_of}
use Rattle.behaviour_tree.specs.BehaviourView.{terms_of}
use Rattle.behaviour_tree.specs.MoveView.{label_of}
use Rattle.behaviour_tree.specs.Over.{AreTermsOf}
use Rattle.behaviour_tree.specs.declared.moves.Label.{Label}
use Rattle.behaviour_tree.specs.declared.moves.Label.TheVariants.{Inner, Gate, Exit}
use Rattle.event_offers.specs.Joining.{have_like_sorts, like_labels}
use Rattle.event_offers.specs.OfferView.{condition_profiles, label_profiles, plain_draft}
use Rattle.event_offers.specs.Offers.{IsConditionOf, AreConditionsOf, IsDraftOver}
use Rattle.event_offers.specs.Renaming.{pair_instance, profiled_renaming_of, renaming_of}
use Rattle.event_offers.specs.declared.drafts.Draft.{Draft}
use Rattle.event_offers.specs.declared.renaming.Renaming.{Renaming}
use Rattle.event_offers.specs.declared.renaming.Renaming.TheVariants.{Raised}
use Rattle.event_offers.proofs.RenamingLemmas.{renamed_terms_of, renamed_pairs_of}

-- the signature gives a term of it the sort that its head tells
pub sort_told : (signature : Signature) (t : ProfiledTerm) → IsOf signature t → head_sort_of signature (bare t) ≡ Some (head_sort t)
sort_told signature (profiled_variable n s) h = refl
sort_told signature (profiled_node f operation ts) h = rw h.0 refl

pub like_sorts : (signature : Signature) (xs ys : List Sorted) → AreTermsOf signature (profiles_of xs) → AreTermsOf signature (profiles_of
    ys)
    → have_same_sorts signature (terms_of xs) (terms_of ys) ≡ have_like_sorts (profiles_of xs) (profiles_of ys)
like_sorts signature [] [] h k = refl
like_sorts signature [] (y ∷ ys) h k = refl
like_sorts signature (x ∷ xs) [] h k = refl
like_sorts signature (x ∷ xs) (y ∷ ys) h k =
    ap (λ (b : Bool). b && have_same_sorts signature (terms_of xs) (terms_of ys))
    (ap (λ (o : Option ℕ). is_same_known_sort o (head_sort_of signature (term_in y))) (sort_told signature (profiled_in x) h.0)
    ∙ ap (λ (o : Option ℕ). is_same_known_sort (Some (head_sort (profiled_in x))) o) (sort_told signature (profiled_in y) k.0))
    ∙ ap (λ (b : Bool). nat_eq (head_sort (profiled_in x)) (head_sort (profiled_in y)) && b) (like_sorts signature xs ys h.1 k.1)

together_like : (signature : Signature) (l r : Label) → AreTermsOf signature (label_profiles l) → AreTermsOf signature (label_profiles r)
    → move_together signature all_gates (label_of l) (label_of r) ≡ like_labels l r
together_like signature Inner r h k = refl
together_like signature (Gate g us) Inner h k = refl
together_like signature (Gate g us) (Exit vs) h k = refl
together_like signature (Gate g us) (Gate i vs) h k = by (nat_eq g i) (like_sorts signature us.items vs.items h k)
  where
    by : (b : Bool) → have_same_sorts signature (terms_of us.items) (terms_of vs.items) ≡ have_like_sorts (profiles_of us.items)
        (profiles_of vs.items)
        → ((b && true) && have_same_sorts signature (terms_of us.items) (terms_of vs.items))
        ≡ (b && have_like_sorts (profiles_of us.items) (profiles_of vs.items))
    by true e = e
    by false e = refl
together_like signature (Exit us) Inner h k = refl
together_like signature (Exit us) (Gate i vs) h k = refl
together_like signature (Exit us) (Exit vs) h k = like_sorts signature us.items vs.items h k

all_raised : (by : ℕ) → renaming_of (Raised 0 by) ≡ raised by
all_raised by = λ i n s. variable (at n i) s
  where
    at : (n : ℕ) → (if nat_lt n 0 then n else n + by) ≡ n + by
    at n = rw (le-ltb n 0 (let le : 0 ≤ n = omega arith in le)) refl

-- where the labels are not alike there is no join
pub not_joined : (signature : Signature) (left right : Draft) → like_labels left.label right.label ≡ false
    → AreTermsOf signature (label_profiles left.label) → AreTermsOf signature (label_profiles right.label)
    → None ≡ join_of_drafts signature (plain_draft left) (plain_draft right)
not_joined signature left right e h k =
    let t : move_together signature all_gates (label_of left.label) (label_of right.label) ≡ false =
    together_like signature left.label right.label h k ∙ e in
    sym (ap (λ (b : Bool). if b then Some (both_drafts (plain_draft left) (draft_with (raised (length (terms_of left.leaves.items)))
    (plain_draft right))) else None) t)

-- where they are, the draft of both sides is the join
pub are_joined : (signature : Signature) (left right made : Draft) → like_labels left.label right.label ≡ true
    → plain_draft made ≡ both_drafts (plain_draft left) (draft_with (renaming_of (Raised 0 (length left.leaves.items))) (plain_draft right))
    → AreTermsOf signature (label_profiles left.label) → AreTermsOf signature (label_profiles right.label)
    → Some (plain_draft made) ≡ join_of_drafts signature (plain_draft left) (plain_draft right)
are_joined signature left right made e is h k =
    let t : move_together signature all_gates (label_of left.label) (label_of right.label) ≡ true =
    together_like signature left.label right.label h k ∙ e in
    let count : length (terms_of left.leaves.items) ≡ length left.leaves.items = length-map left.leaves.items term_in in
    ap (λ (d : plain.Draft). Some d) (is
    ∙ ap (λ (values : Substitution). both_drafts (plain_draft left) (draft_with values (plain_draft right)))
    (all_raised (length left.leaves.items) ∙ ap raised (sym count)))
    ∙ sym (ap (λ (b : Bool). if b then Some (both_drafts (plain_draft left) (draft_with (raised (length (terms_of left.leaves.items)))
    (plain_draft right))) else None) t)

pub zipped_of : (signature : Signature) (ts us : List ProfiledTerm) → AreTermsOf signature ts → AreTermsOf signature us → AreConditionsOf
    signature (zip ts us)
zipped_of signature [] us h k = tt
zipped_of signature (t ∷ ts) [] h k = tt
zipped_of signature (t ∷ ts) (u ∷ us) h k = ((h.0, k.0), zipped_of signature ts us h.1 k.1)

-- What the draft of both sides has, by profiles.
pub record IsMadeOf (left right : Draft) (r : Renaming) (made : Draft) : Type 0 where
  pub values : label_profiles made.label ≡ label_profiles left.label
  pub leaves : profiles_of made.leaves.items ≡ profiles_of left.leaves.items
      ++ map (profiled_instance (profiled_renaming_of r)) (profiles_of right.leaves.items)
  pub conditions : condition_profiles made.conditions.items ≡ condition_profiles left.conditions.items
      ++ map (pair_instance (profiled_renaming_of r)) (condition_profiles right.conditions.items)
      ++ zip (label_profiles left.label) (map (profiled_instance (profiled_renaming_of r)) (label_profiles right.label))

pub joined_over : (signature : Signature) (left right made : Draft) (r : Renaming) → IsMadeOf left right r made
    → Some (plain_draft made) ≡ join_of_drafts signature (plain_draft left) (plain_draft right)
    → IsDraftOver signature left → IsDraftOver signature right → IsDraftOver signature made
joined_over signature left right made r m e h k = record {
  order = let s : SidesMayBeSolvedBefore = solved_sides in
      s.in_order (data_without_equations signature) (plain_draft left) (plain_draft right) (plain_draft made) h.order k.order (sym e);
  values = subst (AreTermsOf signature) (sym m.values) h.values;
  leaves = subst (AreTermsOf signature) (sym m.leaves)
      (Every-append (IsOf signature) (profiles_of left.leaves.items) _ h.leaves (renamed_terms_of signature r (profiles_of
      right.leaves.items) k.leaves));
  conditions = subst (AreConditionsOf signature) (sym m.conditions)
      (Every-append (IsConditionOf signature) (condition_profiles left.conditions.items ++ map (pair_instance (profiled_renaming_of r))
      (condition_profiles right.conditions.items)) _
      (Every-append (IsConditionOf signature) (condition_profiles left.conditions.items) _ h.conditions
      (renamed_pairs_of signature r (condition_profiles right.conditions.items) k.conditions))
      (zipped_of signature (label_profiles left.label) _ h.values (renamed_terms_of signature r (label_profiles right.label) k.values)));
}
