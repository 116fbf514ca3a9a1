-- The terms of a draft in one list, and what is gathered from it again.
use Rattle.std.proofs.Common.{◌≡◌, ◌<◌, ◌≤◌, ◌+◌, ◌-◌, ℕ, zero, suc, List, [], ◌∷◌, ◌++◌, map, length, get_or, take, drop, cond, Bool, not, refl, ap, sym, ◌∙◌, subst, arith, append_assoc, append-nil}
use Rattle.std.proofs.lemmas.List.{drop_all, length-append, length-map, map-append}
use Rattle.lotos_base.proofs.Pieces.{next_member}
use Rattle.lotos_base.proofs.TestLemmas.{Decides-term_eq}
use Rattle.lotos_base.specs.Signature.{Signature}
use Rattle.lotos_base.specs.Term.{Term}
use Rattle.lotos_base.specs.Tests.{term_eq}
use Rattle.behaviour_semantics.proofs.ListLemmas.{Every-append}
use Rattle.behaviour_semantics.specs.Behaviour.{Test}
use Rattle.behaviour_semantics.specs.Solving.{differing, test_in}
use Rattle.sort_terms.specs.ProfiledTerm.{bare, IsOf}
use Rattle.sort_terms.specs.SortedView.{profiled_in, term_in}
use Rattle.sort_terms.specs.declared.sorted.Sorted.{Sorted}
use Rattle.behaviour_tree.specs.BehaviourTerms.{profiles_of}
use Rattle.behaviour_tree.specs.BehaviourView.{terms_of}
use Rattle.behaviour_tree.specs.Over.{AreTermsOf}
use Rattle.event_offers.specs.OfferView.{condition_of, condition_profiles, condition_sides, conditions_of}
use Rattle.event_offers.specs.Offers.{AreConditionsOf, IsConditionOf}
use Rattle.draft_solving.specs.Spreading.{itself, lefts_from}
use Rattle.draft_solving.proofs.FindingLemmas.{sides_of_at}

-- ---- Copies behind a list.
-- The list with the tests of those that are left behind it is the old list with the tests of all.
abbrev pub AreCopiedBefore : List (Sorted × Sorted) → List Test → List (Sorted × Sorted) → List Test → Type 0
AreCopiedBefore old all made rest = conditions_of made ++ rest ≡ conditions_of old ++ all

pub copied_next : (old made more : List (Sorted × Sorted)) (all rest : List Test) (test : Test) (pair : Sorted × Sorted)
    → more ≡ made ++ pair ∷ [] → condition_of pair ≡ test → AreCopiedBefore old all made (test ∷ rest)
    → AreCopiedBefore old all more rest
copied_next old made more all rest test pair is same h =
    ap (λ (pairs : List (Sorted × Sorted)). conditions_of pairs ++ rest) is
    ∙ ap (λ (tests : List Test). tests ++ rest) (map-append condition_of made (pair ∷ []))
    ∙ append_assoc (conditions_of made) (condition_of pair ∷ []) rest
    ∙ ap (λ (u : Test). conditions_of made ++ (u ∷ rest)) same
    ∙ h

-- the same of terms in a list from a place on, each with itself
abbrev pub selves : List Sorted → List Test
selves terms = map itself (terms_of terms)

pub term_copied : (old made more : List (Sorted × Sorted)) (all : List Test) (items : List Sorted) (i : ℕ) (t left right : Sorted)
    → i < length items → t ≡ get_or items i t → profiled_in left ≡ profiled_in t → profiled_in right ≡ profiled_in t
    → more ≡ made ++ (left, right) ∷ [] → AreCopiedBefore old all made (selves (drop i items))
    → AreCopiedBefore old all more (selves (drop (i + 1) items))
term_copied old made more all items i t left right within is l r made_of h =
    copied_next old made more all (selves (drop (i + 1) items)) (itself (term_in t)) (left, right) made_of
    (λ j. record { left = bare (l j); right = bare (r j) })
    (subst (λ (ts : List Sorted). AreCopiedBefore old all made (selves ts)) (next_member items i t within is) h)

pub condition_copied : (old made more : List (Sorted × Sorted)) (all : List Test) (items : List (Sorted × Sorted)) (i : ℕ)
    (x : Sorted × Sorted) (left right : Sorted) → i < length items → x ≡ get_or items i x → profiled_in left ≡ profiled_in x.0
    → profiled_in right ≡ profiled_in x.1 → more ≡ made ++ (left, right) ∷ []
    → AreCopiedBefore old all made (conditions_of (drop i items)) → AreCopiedBefore old all more (conditions_of (drop (i + 1) items))
condition_copied old made more all items i x left right within is l r made_of h =
    copied_next old made more all (conditions_of (drop (i + 1) items)) (condition_of x) (left, right) made_of
    (λ j. record { left = bare (l j); right = bare (r j) })
    (subst (λ (xs : List (Sorted × Sorted)). AreCopiedBefore old all made (conditions_of xs)) (next_member items i x within is) h)

-- ---- Copies are of the signature of what is copied.
pair_of : (signature : Signature) (made more : List (Sorted × Sorted)) (left right : Sorted) → more ≡ made ++ (left, right) ∷ []
    → IsOf signature (profiled_in left) → IsOf signature (profiled_in right) → AreConditionsOf signature (condition_profiles made)
    → AreConditionsOf signature (condition_profiles more)
pair_of signature made more left right is l r h =
    subst (AreConditionsOf signature)
    (sym (ap (λ (pairs : List (Sorted × Sorted)). condition_profiles pairs) is
    ∙ map-append condition_sides made ((left, right) ∷ [])))
    (Every-append (IsConditionOf signature) (condition_profiles made) (condition_sides (left, right) ∷ []) h ((l, r), tt))

pub term_copied_of : (signature : Signature) (made more : List (Sorted × Sorted)) (items : List Sorted) (i : ℕ) (t left right : Sorted)
    → i < length items → t ≡ get_or items i t → profiled_in left ≡ profiled_in t → profiled_in right ≡ profiled_in t
    → more ≡ made ++ (left, right) ∷ []
    → AreConditionsOf signature (condition_profiles made) × AreTermsOf signature (profiles_of (drop i items))
    → AreConditionsOf signature (condition_profiles more) × AreTermsOf signature (profiles_of (drop (i + 1) items))
term_copied_of signature made more items i t left right within is l r made_of h =
    let parts : AreTermsOf signature (profiles_of (t ∷ drop (i + 1) items)) =
    subst (λ (ts : List Sorted). AreTermsOf signature (profiles_of ts)) (next_member items i t within is) h.1 in (
      pair_of signature made more left right made_of (subst (IsOf signature) (sym l) parts.0) (subst (IsOf signature) (sym r) parts.0) h.0,
      parts.1,
    )

pub condition_copied_of : (signature : Signature) (made more : List (Sorted × Sorted)) (items : List (Sorted × Sorted)) (i : ℕ)
    (x : Sorted × Sorted) (left right : Sorted) → i < length items → x ≡ get_or items i x → profiled_in left ≡ profiled_in x.0
    → profiled_in right ≡ profiled_in x.1 → more ≡ made ++ (left, right) ∷ []
    → AreConditionsOf signature (condition_profiles made) × AreConditionsOf signature (condition_profiles (drop i items))
    → AreConditionsOf signature (condition_profiles more) × AreConditionsOf signature (condition_profiles (drop (i + 1) items))
condition_copied_of signature made more items i x left right within is l r made_of h =
    let parts : AreConditionsOf signature (condition_profiles (x ∷ drop (i + 1) items)) =
    subst (λ (xs : List (Sorted × Sorted)). AreConditionsOf signature (condition_profiles xs)) (next_member items i x within is) h.1 in (
      pair_of signature made more left right made_of (subst (IsOf signature) (sym l) parts.0.0)
          (subst (IsOf signature) (sym r) parts.0.1) h.0,
      parts.1,
    )

-- ---- Left sides from a place on.
-- The terms with the left sides that are still to come are all that are to come.
abbrev pub AreLeftsBefore : List Term → ℕ → ℕ → List Test → List Term → Type 0
AreLeftsBefore all count i tests made = made ++ lefts_from i (count - length made) tests ≡ all

-- the next left side
next_left : (x : Sorted × Sorted) (items : List (Sorted × Sorted)) (i before after : ℕ) → i < length items → x ≡ get_or items i x
    → before ≡ suc after → lefts_from i before (conditions_of items) ≡ term_in x.0 ∷ lefts_from (i + 1) after (conditions_of items)
next_left x items i before after within is less =
    let one : suc i ≡ i + 1 = omega arith in
    ap (λ (count : ℕ). lefts_from i count (conditions_of items)) less ∙ go items i within is
    ∙ ap (λ (k : ℕ). term_in x.0 ∷ lefts_from k after (conditions_of items)) one
  where
    go : (xs : List (Sorted × Sorted)) (k : ℕ) → k < length xs → x ≡ get_or xs k x
        → lefts_from k (suc after) (conditions_of xs) ≡ term_in x.0 ∷ lefts_from (suc k) after (conditions_of xs)
    go [] k lt e = absurd (omega arith)
    go (y ∷ xs) zero lt e = ap (λ (z : Sorted × Sorted). term_in z.0 ∷ lefts_from 1 after (conditions_of (y ∷ xs))) (sym e)
    go (y ∷ xs) (suc k) lt e = go xs k (omega arith) e

pub left_next : (all : List Term) (count i : ℕ) (items : List (Sorted × Sorted)) (made more : List Sorted) (x : Sorted × Sorted)
    (t : Sorted) → i < length items → x ≡ get_or items i x → length made < count → profiled_in t ≡ profiled_in x.0 → more ≡ made ++ t ∷ []
    → AreLeftsBefore all count i (conditions_of items) (terms_of made)
    → AreLeftsBefore all count (i + 1) (conditions_of items) (terms_of more)
left_next all count i items made more x t within is fewer same made_of h =
    let fewer_left : ℕ = count - length (terms_of made ++ term_in t ∷ []) in
    let rest : List Term = lefts_from (i + 1) fewer_left (conditions_of items) in
    (λ j. terms_is j ++ lefts_from (i + 1) (count - length (terms_is j)) (conditions_of items))
    ∙ append_assoc (terms_of made) (term_in t ∷ []) rest
    ∙ ap (λ (u : Term). terms_of made ++ (u ∷ rest)) (λ j. bare (same j))
    ∙ ap (λ (ts : List Term). terms_of made ++ ts)
    (sym (next_left x items i (count - length (terms_of made)) fewer_left within is counted))
    ∙ h
  where
    terms_is : terms_of more ≡ terms_of made ++ term_in t ∷ []
    terms_is = ap (λ (ts : List Sorted). terms_of ts) made_of ∙ map-append term_in made (t ∷ [])

    counted : count - length (terms_of made) ≡ suc (count - length (terms_of made ++ term_in t ∷ []))
    counted = omega (arith, length-append (terms_of made) (term_in t ∷ []), length-map made term_in)

pub lefts_full : (all : List Term) (count i : ℕ) (tests : List Test) (made : List Sorted) → count ≤ length made
    → AreLeftsBefore all count i tests (terms_of made) → terms_of made ≡ all
lefts_full all count i tests made full h =
    let none : count - length (terms_of made) ≡ 0 = omega (arith, length-map made term_in) in
    sym (append-nil (terms_of made)) ∙ sym (ap (λ (k : ℕ). terms_of made ++ lefts_from i k tests) none ∙ no_lefts (drop i tests)) ∙ h
  where
    no_lefts : (us : List Test) → terms_of made ++ map (λ (test : Test). test.left) (take 0 us) ≡ terms_of made ++ []
    no_lefts us = refl

pub lefts_past : (all : List Term) (count i : ℕ) (items : List (Sorted × Sorted)) (made : List Sorted) → length items ≤ i
    → AreLeftsBefore all count i (conditions_of items) (terms_of made) → terms_of made ≡ all
lefts_past all count i items made past h =
    let none : drop i (conditions_of items) ≡ [] = drop_all i (conditions_of items) (omega (arith, length-map items condition_of)) in
    sym (append-nil (terms_of made))
    ∙ sym (ap (λ (us : List Test). terms_of made ++ map (λ (test : Test). test.left) (take (count - length (terms_of made)) us)) none
    ∙ no_lefts (count - length (terms_of made)))
    ∙ h
  where
    no_lefts : (k : ℕ) → terms_of made ++ map (λ (test : Test). test.left) (take k []) ≡ terms_of made ++ []
    no_lefts zero = refl
    no_lefts (suc k) = refl

pub left_of : (signature : Signature) (items : List (Sorted × Sorted)) (i : ℕ) (made more : List Sorted) (x : Sorted × Sorted) (t : Sorted)
    → i < length items → x ≡ get_or items i x → profiled_in t ≡ profiled_in x.0 → more ≡ made ++ t ∷ []
    → (AreConditionsOf signature (condition_profiles items) → AreTermsOf signature (profiles_of made))
    → AreConditionsOf signature (condition_profiles items) → AreTermsOf signature (profiles_of more)
left_of signature items i made more x t within is same made_of h all =
    subst (AreTermsOf signature) (sym (ap (λ (ts : List Sorted). profiles_of ts) made_of ∙ map-append profiled_in made (t ∷ [])))
    (Every-append (IsOf signature) (profiles_of made) (profiled_in t ∷ []) (h all)
    (subst (IsOf signature) (sym same) (sides_of_at signature items i x within is all).0, tt))

-- ---- What is gathered from the list of changed terms.
module _ (change : Term → Term) where
  pub lefts_behind : (front : List Test) (ts : List Term) (rest : List Test)
      → lefts_from (length front) (length ts) (map (test_in change) ((front ++ map itself ts) ++ rest)) ≡ map change ts
  lefts_behind [] [] rest = refl
  lefts_behind [] (t ∷ ts) rest = ap (λ (us : List Term). change t ∷ us) (lefts_behind [] ts rest)
  lefts_behind (test ∷ front) ts rest = lefts_behind front ts rest

  same_dropped : (front : List Test) (ts : List Term) → differing (map (test_in change) (front ++ map itself ts))
      ≡ differing (map (test_in change) front)
  same_dropped [] [] = refl
  same_dropped [] (t ∷ ts) =
      ap (λ (b : Bool). cond (not b) (itself (change t) ∷ differing (map (test_in change) (map itself ts)))
      (differing (map (test_in change) (map itself ts)))) ((Decides-term_eq (change t) (change t)).1 refl)
      ∙ same_dropped [] ts
  same_dropped (test ∷ front) ts =
      ap (λ (tests : List Test). cond (not (term_eq (change test.left) (change test.right))) (test_in change test ∷ tests) tests)
      (same_dropped front ts)

  -- from a list of conditions, values and leaves
  module _ (conditions : List Test) (values leaves : List Term) (tests : List Test)
      (told : tests ≡ map (test_in change) ((conditions ++ map itself values) ++ map itself leaves)) where
    pub values_gathered : (first : ℕ) → first ≡ length conditions → lefts_from first (length values) tests ≡ map change values
    values_gathered first at =
        (λ j. lefts_from (at j) (length values) (told j)) ∙ lefts_behind conditions values (map itself leaves)

    pub leaves_gathered : (first count : ℕ) → first ≡ length tests - count → count ≡ length leaves
        → lefts_from first count tests ≡ map change leaves
    leaves_gathered first count behind counted =
        (λ j. lefts_from (at j) (counted j) (whole j)) ∙ lefts_behind (conditions ++ map itself values) leaves []
      where
        whole : tests ≡ map (test_in change) (((conditions ++ map itself values) ++ map itself leaves) ++ [])
        whole = told ∙ ap (map (test_in change)) (sym (append-nil ((conditions ++ map itself values) ++ map itself leaves)))

        at : first ≡ length (conditions ++ map itself values)
        at =
            let all = ap (λ (us : List Test). length us) told in
            let mapped = length-map ((conditions ++ map itself values) ++ map itself leaves) (test_in change) in
            let parts = length-append (conditions ++ map itself values) (map itself leaves) in
            let last = length-map leaves itself in
            omega (arith, behind, counted, all, mapped, parts, last)

    pub conditions_gathered : differing tests ≡ differing (map (test_in change) conditions)
    conditions_gathered =
        ap (λ (us : List Test). differing us) told ∙ same_dropped (conditions ++ map itself values) leaves ∙ same_dropped conditions values
