-- The join of drafts in order is in order.
use Rattle.std.proofs.Common.{◌≡◌, ◌<◌, ◌+◌, ◌++◌, ◌⊎◌, inl, inr, ℕ, zero, suc, List, [], ◌∷◌, length, map, slice_get, Some, Bool, true, false, ◌&&◌, nat_eq, refl, ap, sym, ◌∙◌, subst, arith, eqb-true}
use Rattle.std.proofs.lemmas.List.{length-map, length-append}
use Rattle.std.proofs.lemmas.Bool.{and_parts}
use Rattle.lotos_base.proofs.Members.{at_front, at_map, from_map}
use Rattle.lotos_base.specs.Signature.{Signature}
use Rattle.lotos_base.specs.Term.{Term, variable, node}
use Rattle.lotos_base.specs.Sorting.{HasSort, head_sort_of}
use Rattle.lotos_base.specs.Substitution.{substituted}
use Rattle.lotos_base.proofs.SortLemmas.{sort_of_sorted}
use Rattle.lotos_base.proofs.SubstitutionLemmas.{ComesFrom, substituted_occurs, substituted_sort}
use Rattle.behaviour_semantics.specs.Behaviour.{Test, all_gates}
use Rattle.behaviour_semantics.specs.Label.{Label, inner_event, gate_event, exit_event}
use Rattle.behaviour_semantics.specs.Rule.{is_same_known_sort, have_same_sorts, move_together, label_values, pairwise}
use Rattle.behaviour_semantics.specs.Draft.{Draft}
use Rattle.behaviour_semantics.specs.Solving.{canonical, label_in, test_in}
use Rattle.behaviour_semantics.specs.Join.{both_drafts, raised}
use Rattle.behaviour_semantics.specs.WellFormed.{Every}
use Rattle.behaviour_semantics.specs.DraftOrder.{IsLeaf, HasLeafVariables, IsDraftTerm, IsDraftTest, IsInOrder}
use Rattle.behaviour_semantics.proofs.ListLemmas.{Every-append}
use Rattle.behaviour_semantics.proofs.RelatedTerms.{occurs_sort}
use Rattle.behaviour_semantics.proofs.DraftsInOrder.{label_values-in}

back_at : {X : Type 0} (xs ys : List X) (i : ℕ) (x : X) → slice_get ys i ≡ Some x → slice_get (xs ++ ys) (length xs + i) ≡ Some x
back_at [] ys i x at = subst (λ (k : ℕ). slice_get ys k ≡ Some x) (let e : i ≡ 0 + i = omega arith in e) at
back_at (z ∷ xs) ys i x at =
    let there : slice_get (xs ++ ys) (length xs + i) ≡ Some x = back_at xs ys i x at in
    subst (λ (k : ℕ). slice_get (z ∷ (xs ++ ys)) k ≡ Some x) (let e : suc (length xs + i) ≡ suc (length xs) + i = omega arith in e) there

either_at : {X : Type 0} (xs ys : List X) (i : ℕ) (x : X) → slice_get (xs ++ ys) i ≡ Some x → (slice_get xs i ≡ Some x)
    ⊎ ((j : ℕ) × (slice_get ys j ≡ Some x))
either_at [] ys i x at = inr (i, at)
either_at (z ∷ xs) ys zero x at = inl at
either_at (z ∷ xs) ys (suc i) x at = either_at xs ys i x at

module _ (signature : Signature) (left right : Draft) (left_order : IsInOrder signature left)
    (right_order : IsInOrder signature right) where
  abbrev rights : List Term
  rights = map (substituted (raised (length left.leaves))) right.leaves

  abbrev wholes : List Term
  wholes = left.leaves ++ map (substituted (raised (length left.leaves))) right.leaves

  left_term : (s : ℕ) (t : Term) → HasLeafVariables signature left.leaves s t
      → HasLeafVariables signature (left.leaves ++ map (substituted (raised (length left.leaves))) right.leaves) s t
  left_term s t h = record {
    sorted = h.sorted;
    own = λ n r o. let leaf : IsLeaf left.leaves n r = h.own n r o in (leaf.0, at_front left.leaves rights leaf.0 (variable n r) leaf.1);
  }

  right_term : (s : ℕ) (t : Term) → HasLeafVariables signature right.leaves s t
      → HasLeafVariables signature (left.leaves ++ map (substituted (raised (length left.leaves))) right.leaves) s
      (substituted (raised (length left.leaves)) t)
  right_term s t h = record {
    sorted = substituted_sort signature (raised (length left.leaves)) t s h.sorted
        (λ n r o. (refl, occurs_sort signature t s n r h.sorted o));
    own = λ n r o.
        let from : ComesFrom n r (raised (length left.leaves)) t = substituted_occurs n r (raised (length left.leaves)) t o in
        let leaf : IsLeaf right.leaves from.number from.sort = h.own from.number from.sort from.occurs in
        let there : slice_get rights leaf.0 ≡ Some (variable n r) =
        at_map (substituted (raised (length left.leaves))) right.leaves leaf.0 (variable from.number from.sort) leaf.1
        ∙ (ap (λ (k : ℕ). Some (variable k from.sort)) from.inside.0 ∙ ap (λ (q : ℕ). Some (variable n q)) from.inside.1) in
        (length left.leaves + leaf.0, back_at left.leaves rights leaf.0 (variable n r) there);
  }

  left_terms : (ts : List Term) → Every (IsDraftTerm signature left.leaves) ts
      → Every (IsDraftTerm signature (left.leaves ++ map (substituted (raised (length left.leaves))) right.leaves)) ts
  left_terms [] h = tt
  left_terms (t ∷ ts) h = ((h.0.0, left_term h.0.0 t h.0.1), left_terms ts h.1)

  right_terms : (ts : List Term) → Every (IsDraftTerm signature right.leaves) ts
      → Every (IsDraftTerm signature (left.leaves ++ map (substituted (raised (length left.leaves))) right.leaves))
      (map (substituted (raised (length left.leaves))) ts)
  right_terms [] h = tt
  right_terms (t ∷ ts) h = ((h.0.0, right_term h.0.0 t h.0.1), right_terms ts h.1)

  left_tests : (tests : List Test) → Every (IsDraftTest signature left.leaves) tests
      → Every (IsDraftTest signature (left.leaves ++ map (substituted (raised (length left.leaves))) right.leaves)) tests
  left_tests [] h = tt
  left_tests (test ∷ tests) h = ((h.0.0, left_term h.0.0 test.left h.0.1, left_term h.0.0 test.right h.0.2), left_tests tests h.1)

  right_tests : (tests : List Test) → Every (IsDraftTest signature right.leaves) tests
      → Every (IsDraftTest signature (left.leaves ++ map (substituted (raised (length left.leaves))) right.leaves))
      (map (test_in (substituted (raised (length left.leaves)))) tests)
  right_tests [] h = tt
  right_tests (test ∷ tests) h = ((h.0.0, right_term h.0.0 test.left h.0.1, right_term h.0.0 test.right h.0.2), right_tests tests h.1)

  one_sort_of : (t u : Term) (r s : ℕ) → HasSort signature t r → HasSort signature u s
      → is_same_known_sort (head_sort_of signature t) (head_sort_of signature u) ≡ true → s ≡ r
  one_sort_of t u r s h k same =
      let known : is_same_known_sort (Some r) (Some s) ≡ true = (λ i. is_same_known_sort (sym (sort_of_sorted signature t r h) i)
      (sym (sort_of_sorted signature u s k) i)) ∙ same in
      sym (eqb-true r s known)

  -- the pairs of values that are matched have one sort each
  pairs : (ts us : List Term) → Every (IsDraftTerm signature left.leaves) ts → Every (IsDraftTerm signature right.leaves) us
      → have_same_sorts signature ts us ≡ true
      → Every (IsDraftTest signature (left.leaves ++ map (substituted (raised (length left.leaves))) right.leaves))
      (pairwise ts (map (substituted (raised (length left.leaves))) us))
  pairs [] us h k same = tt
  pairs (t ∷ ts) [] h k same = tt
  pairs (t ∷ ts) (u ∷ us) h k same =
      let both : _ × _ =
      and_parts (is_same_known_sort (head_sort_of signature t) (head_sort_of signature u)) (have_same_sorts signature ts us) same in
      let sort : k.0.0 ≡ h.0.0 = one_sort_of t u h.0.0 k.0.0 h.0.1.sorted k.0.1.sorted both.0 in
      let other : HasLeafVariables signature (left.leaves ++ map (substituted (raised (length left.leaves))) right.leaves) h.0.0
      (substituted (raised (length left.leaves)) u) =
      subst (λ (s : ℕ). HasLeafVariables signature (left.leaves ++ map (substituted (raised (length left.leaves))) right.leaves) s
      (substituted (raised (length left.leaves)) u)) sort (right_term k.0.0 u k.0.1) in
      ((h.0.0, left_term h.0.0 t h.0.1, other), pairs ts us h.1 k.1 both.1)

  together_sorts : (label other : Label) → move_together signature all_gates label other ≡ true
      → have_same_sorts signature (label_values label) (label_values other) ≡ true
  together_sorts inner_event other e = absurd (cc e)
  together_sorts (gate_event g ts) inner_event e = absurd (cc e)
  together_sorts (gate_event g ts) (exit_event us) e = absurd (cc e)
  together_sorts (gate_event g ts) (gate_event h us) e = by (nat_eq g h) e
    where
      by : (b : Bool) → (b && true && have_same_sorts signature ts us) ≡ true → have_same_sorts signature ts us ≡ true
      by true e = e
      by false e = absurd (cc e)
  together_sorts (exit_event ts) inner_event e = absurd (cc e)
  together_sorts (exit_event ts) (gate_event h us) e = absurd (cc e)
  together_sorts (exit_event ts) (exit_event us) e = e

  -- which side's leaf a variable is
  pub whole_leaf : (n s : ℕ) → IsLeaf (left.leaves ++ map (substituted (raised (length left.leaves))) right.leaves) n s
      → ((n < length left.leaves) × IsLeaf left.leaves n s) ⊎ ((m : ℕ) × (n ≡ m + length left.leaves) × IsLeaf right.leaves m s)
  whole_leaf n s (i, at) = by (either_at left.leaves rights i (variable n s) at)
    where
      was : (t : Term) → substituted (raised (length left.leaves)) t ≡ variable n s → (m : ℕ) × (t ≡ variable m s)
          × (n ≡ m + length left.leaves)
      was (node f ts) e = absurd (cc e)
      was (variable m q) e = let numbers : n ≡ m + length left.leaves = cc e in let sorts : q ≡ s = cc e in
          (m, ap (variable m) sorts, numbers)

      by : (slice_get left.leaves i ≡ Some (variable n s)) ⊎ ((j : ℕ) × (slice_get rights j ≡ Some (variable n s)))
          → ((n < length left.leaves) × IsLeaf left.leaves n s) ⊎ ((m : ℕ) × (n ≡ m + length left.leaves) × IsLeaf right.leaves m s)
      by (inl here) = inl (left_order.below n s (i, here), (i, here))
      by (inr (j, there)) =
          let from : (t : Term) × (slice_get right.leaves j ≡ Some t) × (substituted (raised (length left.leaves)) t ≡ variable n s) =
          from_map (substituted (raised (length left.leaves))) right.leaves j (variable n s) there in
          let m : (m : ℕ) × (from.0 ≡ variable m s) × (n ≡ m + length left.leaves) = was from.0 from.2 in
          inr (m.0, m.2, (j, from.1 ∙ ap (λ (t : Term). Some t) m.1))

  whole_below : (n s : ℕ) → IsLeaf (left.leaves ++ map (substituted (raised (length left.leaves))) right.leaves) n s
      → n < length (left.leaves ++ map (substituted (raised (length left.leaves))) right.leaves)
  whole_below n s leaf = by (whole_leaf n s leaf)
    where
      long : length (left.leaves ++ map (substituted (raised (length left.leaves))) right.leaves) ≡ length left.leaves + length right.leaves
      long = length-append left.leaves rights ∙ ap (λ (k : ℕ). length left.leaves + k)
          (length-map right.leaves (substituted (raised (length left.leaves))))

      by : ((n < length left.leaves) × IsLeaf left.leaves n s) ⊎ ((m : ℕ) × (n ≡ m + length left.leaves) × IsLeaf right.leaves m s)
          → n < length (left.leaves ++ map (substituted (raised (length left.leaves))) right.leaves)
      by (inl (lt, here)) = omega (arith, lt, long)
      by (inr (m, e, there)) = let lt : m < length right.leaves = right_order.below m s there in omega (arith, lt, e, long)

  whole_one_sort : (n r s : ℕ) → IsLeaf (left.leaves ++ map (substituted (raised (length left.leaves))) right.leaves) n r
      → IsLeaf (left.leaves ++ map (substituted (raised (length left.leaves))) right.leaves) n s → r ≡ s
  whole_one_sort n r s leaf other = by (whole_leaf n r leaf) (whole_leaf n s other)
    where
      by : ((n < length left.leaves) × IsLeaf left.leaves n r) ⊎ ((m : ℕ) × (n ≡ m + length left.leaves) × IsLeaf right.leaves m r)
          → ((n < length left.leaves) × IsLeaf left.leaves n s) ⊎ ((m : ℕ) × (n ≡ m + length left.leaves) × IsLeaf right.leaves m s)
          → r ≡ s
      by (inl (lt, here)) (inl (lt', here')) = left_order.one_sort n r s here here'
      by (inl (lt, here)) (inr (m, e, there)) = absurd (omega (arith, lt, e))
      by (inr (m, e, there)) (inl (lt, here)) = absurd (omega (arith, lt, e))
      by (inr (m, e, there)) (inr (m', e', there')) =
          let same : m ≡ m' = omega (arith, e, e') in
          right_order.one_sort m r s there (subst (λ (k : ℕ). IsLeaf right.leaves k s) (sym same) there')

  pub both_in_order : move_together signature all_gates left.label right.label ≡ true
      → IsInOrder signature (both_drafts left (canonical (substituted (raised (length left.leaves))) right))
  both_in_order together = record {
    values = left_terms (label_values left.label) left_order.values;
    leaves = Every-append (IsDraftTerm signature wholes) left.leaves rights (left_terms left.leaves left_order.leaves)
        (right_terms right.leaves right_order.leaves);
    conditions = Every-append (IsDraftTest signature wholes) (left.conditions ++ map
        (test_in (substituted (raised (length left.leaves)))) right.conditions)
        (pairwise (label_values left.label) (label_values (label_in (substituted (raised (length left.leaves))) right.label)))
        (Every-append (IsDraftTest signature wholes) left.conditions (map
        (test_in (substituted (raised (length left.leaves)))) right.conditions) (left_tests left.conditions left_order.conditions)
        (right_tests right.conditions right_order.conditions))
        (subst (λ (us : List Term). Every (IsDraftTest signature wholes) (pairwise (label_values left.label) us))
        (sym (label_values-in (substituted (raised (length left.leaves))) right.label))
        (pairs (label_values left.label) (label_values right.label) left_order.values right_order.values
        (together_sorts left.label right.label together)));
    below = whole_below;
    one_sort = whole_one_sort;
  }
