-- When sides meet and what ends `>>`, over a signature that the values are of.
use Rattle.std.proofs.Common.{length, arith, subst, ◌≡◌, ℕ, List, [], ◌∷◌, Option, None, Some, Bool, true, false, ◌&&◌, nat_eq, if◌then◌else◌, refl, ap, sym, ◌∙◌}
use Rattle.std.specs.Prelude.{Vec}
use Rattle.std.specs.declared.alloc.Global.{Global}
use Rattle.lotos_base.specs.Signature.{Signature}
use Rattle.lotos_base.specs.Sorting.{head_sort_of}
use Rattle.behaviour_semantics.specs.Behaviour.{SynchronisationSet, sorts_of}
use Rattle.behaviour_semantics.specs.Draft.{Draft}
use Rattle.behaviour_semantics.specs.Rule.{synchronises, is_same_known_sort, have_sorts, have_same_sorts, move_together}
use Rattle.sort_terms.specs.ProfiledTerm.{head_sort}
use Rattle.sort_terms.specs.SortedView.{profiled_in, term_in}
use Rattle.sort_terms.specs.declared.equations.Variable.{Variable}
use Rattle.sort_terms.specs.declared.sorted.Sorted.{Sorted}
use Rattle.behaviour_tree.specs.BehaviourTerms.{profiles_of}
use Rattle.behaviour_tree.specs.BehaviourView.{terms_of, variables_of}
use Rattle.behaviour_tree.specs.MoveView.{label_of}
use Rattle.behaviour_tree.specs.Over.{AreTermsOf}
use Rattle.behaviour_tree.specs.declared.moves.Label.{Label}
use Rattle.behaviour_tree.specs.declared.moves.Label.TheVariants.{Inner, Gate, Exit}
use Rattle.event_offers.specs.Joining.{have_like_sorts, like_labels}
use Rattle.event_offers.specs.OfferView.{label_profiles, plain_draft}
use Rattle.event_offers.specs.declared.drafts.Draft.{Draft as OfferDraft}
use Rattle.event_offers.proofs.JoinLemmas.{sort_told, like_sorts}
use Rattle.draft_parts.specs.DraftRules.{enable_by, enable_draft, ended_draft}
use Rattle.draft_parts.specs.Meeting.{may_be_met, meet_told, sorts_told}

and_true : (c : Bool) → c ≡ (c && true)
and_true true = refl
and_true false = refl

and_false : (c : Bool) → false ≡ (c && false)
and_false true = refl
and_false false = refl

both_tests : (b s same like : Bool) → same ≡ like → ((b && s) && same) ≡ ((b && like) && s)
both_tests true true same like e = e ∙ and_true like
both_tests true false same like e = and_false like
both_tests false s same like e = refl

pub together_told : (signature : Signature) (meet : SynchronisationSet) (l r : Label) → AreTermsOf signature (label_profiles l)
    → AreTermsOf signature (label_profiles r) → move_together signature meet (label_of l) (label_of r) ≡ meet_told meet l r
together_told signature meet Inner r h k = refl
together_told signature meet (Gate g us) Inner h k = refl
together_told signature meet (Gate g us) (Exit vs) h k = refl
together_told signature meet (Gate g us) (Gate i vs) h k =
    both_tests (nat_eq g i) (synchronises meet g) (have_same_sorts signature (terms_of us.items) (terms_of vs.items))
    (have_like_sorts (profiles_of us.items) (profiles_of vs.items)) (like_sorts signature us.items vs.items h k)
together_told signature meet (Exit us) Inner h k = refl
together_told signature meet (Exit us) (Gate i vs) h k = refl
together_told signature meet (Exit us) (Exit vs) h k =
    like_sorts signature us.items vs.items h k ∙ and_true (have_like_sorts (profiles_of us.items) (profiles_of vs.items))

pub ends_told : (signature : Signature) (vs : List Sorted) (ss : List ℕ) → AreTermsOf signature (profiles_of vs)
    → have_sorts signature (terms_of vs) ss ≡ sorts_told (profiles_of vs) ss
ends_told signature [] [] h = refl
ends_told signature [] (s ∷ ss) h = refl
ends_told signature (v ∷ vs) [] h = refl
ends_told signature (v ∷ vs) (s ∷ ss) h =
    ap (λ (o : Option ℕ). is_same_known_sort o (Some s) && have_sorts signature (terms_of vs) ss) (sort_told signature (profiled_in v) h.0)
    ∙ ap (λ (b : Bool). nat_eq (head_sort (profiled_in v)) s && b) (ends_told signature vs ss h.1)

-- what a test chooses
pub not_chosen : (b : Bool) (d : Draft) → b ≡ false → None ≡ (if b then Some d else None)
not_chosen b d e = sym (ap (λ (c : Bool). if c then Some d else None) e)

pub chosen : (b : Bool) (made d : Draft) → b ≡ true → made ≡ d → Some made ≡ (if b then Some d else None)
chosen b made d e is = ap (λ (x : Draft). Some x) is ∙ sym (ap (λ (c : Bool). if c then Some d else None) e)

pub unlike_counts : (vs : List Sorted) (xs : List Variable) → (length vs ≡ length xs → ⊥)
    → false ≡ sorts_told (profiles_of vs) (sorts_of (variables_of xs))
unlike_counts [] [] apart = absurd (apart refl)
unlike_counts [] (x ∷ xs) apart = refl
unlike_counts (v ∷ vs) [] apart = refl
unlike_counts (v ∷ vs) (x ∷ xs) apart = by (nat_eq (head_sort (profiled_in v)) x.sort) (unlike_counts vs xs (λ e. apart (omega (arith, e))))
  where
    by : (b : Bool) → false ≡ sorts_told (profiles_of vs) (sorts_of (variables_of xs))
        → false ≡ (b && sorts_told (profiles_of vs) (sorts_of (variables_of xs)))
    by true rest = rest
    by false rest = refl

-- a left side that ends
ends_by : (signature : Signature) (ss : List ℕ) (draft : OfferDraft) (values : Vec Sorted Global) → draft.label ≡ Exit values
    → AreTermsOf signature (label_profiles draft.label)
    → enable_draft signature ss (plain_draft draft)
    ≡ (if sorts_told (profiles_of values.items) ss then Some (ended_draft (plain_draft draft)) else None)
ends_by signature ss draft values is h =
    let terms : AreTermsOf signature (profiles_of values.items) = subst (λ (l : Label). AreTermsOf signature (label_profiles l)) is h in
    ap (λ (l : Label). enable_by signature ss (plain_draft draft) (label_of l)) is
    ∙ ap (λ (b : Bool). if b then Some (ended_draft (plain_draft draft)) else None) (ends_told signature values.items ss terms)

pub not_ended : (signature : Signature) (ss : List ℕ) (draft : OfferDraft) (values : Vec Sorted Global) → draft.label ≡ Exit values
    → false ≡ sorts_told (profiles_of values.items) ss → AreTermsOf signature (label_profiles draft.label)
    → None ≡ enable_draft signature ss (plain_draft draft)
not_ended signature ss draft values is e h =
    not_chosen _ _ (sym e) ∙ sym (ends_by signature ss draft values is h)

pub is_ended : (signature : Signature) (ss : List ℕ) (draft : OfferDraft) (values : Vec Sorted Global) (made : Draft) → draft.label ≡ Exit
    values
    → true ≡ sorts_told (profiles_of values.items) ss → made ≡ ended_draft (plain_draft draft)
    → AreTermsOf signature (label_profiles draft.label) → Some made ≡ enable_draft signature ss (plain_draft draft)
is_ended signature ss draft values made is e m h =
    chosen _ made _ (sym e) m ∙ sym (ends_by signature ss draft values is h)
