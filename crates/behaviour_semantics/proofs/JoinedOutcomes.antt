-- The join of two entries has the outcome of the join of their drafts: the numbers of variables keep their order.
use Rattle.std.proofs.Common.{◌≡◌, ◌<◌, ◌≤◌, ◌+◌, ◌-◌, ◌++◌, ◌⊎◌, inl, inr, ℕ, List, [], ◌∷◌, length, map, slice_get, Some, Bool, nat_lt, if◌then◌else◌, refl, ap, sym, ◌∙◌, subst, arith, lt-ltb}
use Rattle.std.proofs.lemmas.Bool.{cases_order, le-ltb}
use Rattle.std.proofs.lemmas.List.{length-map, length-append}
use Rattle.std.proofs.lemmas.Option.{slice_get_within}
use Rattle.lotos_base.proofs.Members.{at_map, from_map}
use Rattle.lotos_base.specs.Term.{Term, variable}
use Rattle.lotos_base.specs.Sorting.{Occurs}
use Rattle.lotos_base.specs.Equation.{Data}
use Rattle.lotos_base.specs.Substitution.{substituted, followed_by}
use Rattle.lotos_base.specs.Canon.{IsCanon}
use Rattle.lotos_base.proofs.SubstitutionLemmas.{ComesFrom, substituted_occurs, substituted_twice, substituted_agree, substituted_sort}
use Rattle.behaviour_semantics.specs.Behaviour.{Test}
use Rattle.behaviour_semantics.specs.Rule.{label_values, pairwise}
use Rattle.behaviour_semantics.specs.Draft.{Draft, draft_with}
use Rattle.behaviour_semantics.specs.Solving.{entry_of, variables_left, place_of_number, test_in, canonical, tidied}
use Rattle.behaviour_semantics.specs.Join.{both_drafts, raised}
use Rattle.behaviour_semantics.specs.WellFormed.{Every}
use Rattle.behaviour_semantics.specs.DraftOrder.{IsLeaf, IsDraftTerm, IsInOrder, as_draft}
use Rattle.behaviour_semantics.proofs.ListLemmas.{Every-append, Every-at}
use Rattle.behaviour_semantics.proofs.RelatedTerms.{occurs_sort}
use Rattle.behaviour_semantics.proofs.DraftsInOrder.{label_values-in, tidied_in_order, draft_with-in}
use Rattle.behaviour_semantics.proofs.LeftVariables.{left_rises, rising_at, left_length, placed, apart as places_apart}
use Rattle.behaviour_semantics.proofs.SettledEntries.{renumbered}
use Rattle.behaviour_semantics.proofs.SolvingSteps.{SameOutcomes, same_then, same_tidied}
use Rattle.behaviour_semantics.proofs.JoinedSides.{EachTerm, after, canonical_twice, canonical_same, canonical-both}
use Rattle.behaviour_semantics.proofs.RenamedSolving.{by_number, terms_in_order, TermOver, tidied_renamed, Fits, renamed_tidied, same_renamed}
use Rattle.behaviour_semantics.proofs.JoinedSolving.{Finished, tidied_again, Reaches}

-- A property of the terms of both sides is one of the join's.
Every_pairs : (P : Term → Type 0) (ts us : List Term) → Every P ts → Every P us
    → Every (λ (test : Test). P test.left × P test.right) (pairwise ts us)
Every_pairs P [] us h k = tt
Every_pairs P (t ∷ ts) [] h k = tt
Every_pairs P (t ∷ ts) (u ∷ us) h k = ((h.0, k.0), Every_pairs P ts us h.1 k.1)

each_both : (P : Term → Type 0) (left right : Draft) → EachTerm P left → EachTerm P right → EachTerm P (both_drafts left right)
each_both P left right h k = record {
  values = h.values;
  leaves = Every-append P left.leaves right.leaves h.leaves k.leaves;
  conditions = Every-append (λ (test : Test). P test.left × P test.right) (left.conditions ++ right.conditions)
      (pairwise (label_values left.label) (label_values right.label))
      (Every-append (λ (test : Test). P test.left × P test.right) left.conditions right.conditions h.conditions k.conditions)
      (Every_pairs P (label_values left.label) (label_values right.label) h.values k.values);
}

pub each_changed : (P Q : Term → Type 0) (f : Term → Term) → ((t : Term) → P t → Q (f t)) → (draft : Draft) → EachTerm P draft
    → EachTerm Q (canonical f draft)
each_changed P Q f w draft h = record {
  values = subst (Every Q) (sym (label_values-in f draft.label)) (terms (label_values draft.label) h.values);
  leaves = terms draft.leaves h.leaves;
  conditions = tests draft.conditions h.conditions;
}
  where
    terms : (ts : List Term) → Every P ts → Every Q (map f ts)
    terms [] h = tt
    terms (t ∷ ts) h = (w t h.0, terms ts h.1)

    tests : (tests : List Test) → Every (λ (test : Test). P test.left × P test.right) tests
        → Every (λ (test : Test). Q test.left × Q test.right) (map (test_in f) tests)
    tests [] h = tt
    tests (test ∷ more) h = ((w test.left h.0.0, w test.right h.0.1), tests more h.1)

-- The places of variables keep their order, and are fewer than the leaves.
module _ (data_ : Data) (draft : Draft) (order : IsInOrder data_.signature draft) where
  pub place : ℕ → ℕ
  place n = place_of_number 0 (variables_left 0 draft.leaves draft.leaves) n

  place_rises : (n m r s : ℕ) → IsLeaf draft.leaves n r → IsLeaf draft.leaves m s → n < m
      → place_of_number 0 (variables_left 0 draft.leaves draft.leaves) n < place_of_number 0 (variables_left 0 draft.leaves draft.leaves) m
  place_rises n m r s leaf other lt = by (cases_order (place_of_number 0 (variables_left 0 draft.leaves draft.leaves) n)
      (place_of_number 0 (variables_left 0 draft.leaves draft.leaves) m))
    where
      number_at : (k q : ℕ) → IsLeaf draft.leaves k q → slice_get (map (λ (v : ℕ × ℕ). v.0)
          (variables_left 0 draft.leaves draft.leaves)) (place_of_number 0 (variables_left 0 draft.leaves draft.leaves) k) ≡ Some k
      number_at k q l = at_map (λ (v : ℕ × ℕ). v.0) (variables_left 0 draft.leaves draft.leaves)
          (place_of_number 0 (variables_left 0 draft.leaves draft.leaves) k) (k, q) (placed draft.leaves order.below order.one_sort k q l)

      by : (place_of_number 0 (variables_left 0 draft.leaves draft.leaves) n
          ≡ place_of_number 0 (variables_left 0 draft.leaves draft.leaves) m)
          ⊎ ((place_of_number 0 (variables_left 0 draft.leaves draft.leaves) n
          < place_of_number 0 (variables_left 0 draft.leaves draft.leaves) m)
          ⊎ (place_of_number 0 (variables_left 0 draft.leaves draft.leaves) m
          < place_of_number 0 (variables_left 0 draft.leaves draft.leaves) n))
          → place_of_number 0 (variables_left 0 draft.leaves draft.leaves) n
          < place_of_number 0 (variables_left 0 draft.leaves draft.leaves) m
      by (inl same) = let equal : n ≡ m = places_apart draft.leaves order.below order.one_sort n m r s leaf other same in
          absurd (omega (arith, lt, equal))
      by (inr (inl less)) = less
      by (inr (inr more)) =
          let back : m < n = rising_at 0 (variables_left 0 draft.leaves draft.leaves) (left_rises 0 draft.leaves draft.leaves)
          (place_of_number 0 (variables_left 0 draft.leaves draft.leaves) m)
          (place_of_number 0 (variables_left 0 draft.leaves draft.leaves) n) m n more (number_at m s other) (number_at n r leaf) in
          absurd (omega (arith, lt, back))

  place_below : (n s : ℕ) → IsLeaf draft.leaves n s → place_of_number 0 (variables_left 0 draft.leaves draft.leaves) n < length draft.leaves
  place_below n s leaf =
      let lt : place_of_number 0 (variables_left 0 draft.leaves draft.leaves) n < length (variables_left 0 draft.leaves draft.leaves) =
      slice_get_within (variables_left 0 draft.leaves draft.leaves)
      (place_of_number 0 (variables_left 0 draft.leaves draft.leaves) n) (n, s)
      (placed draft.leaves order.below order.one_sort n s leaf) in
      let le : length (variables_left 0 draft.leaves draft.leaves) ≤ length draft.leaves = left_length 0 draft.leaves draft.leaves in
      omega (arith, lt, le)

-- ---- Two finished sides
module _ (data_ : Data) (canon : Term → Term) (is_canon : IsCanon data_ canon) (left right : Draft)
    (left_done : Finished data_ canon left) (right_done : Finished data_ canon right) where
  abbrev limit : ℕ
  limit = length left.leaves

  -- the variables of both sides, those of the right one with higher numbers
  abbrev OfBoth : ℕ → ℕ → Type 0
  OfBoth n s = ((n < length left.leaves) × IsLeaf left.leaves n s) ⊎ ((m : ℕ) × (n ≡ m + length left.leaves) × IsLeaf right.leaves m s)

  -- the numbers that they have in the entries, those of the right one higher again
  abbrev number : ℕ → ℕ
  number n = if nat_lt n (length left.leaves) then place_of_number 0 (variables_left 0 left.leaves left.leaves) n else
      place_of_number 0 (variables_left 0 right.leaves right.leaves) (n - length left.leaves) + length left.leaves

  on_left : (n : ℕ) → n < length left.leaves → number n ≡ place_of_number 0 (variables_left 0 left.leaves left.leaves) n
  on_left n lt = ap (λ (b : Bool). if b then place_of_number 0 (variables_left 0 left.leaves left.leaves) n else
      place_of_number 0 (variables_left 0 right.leaves right.leaves) (n - length left.leaves) + length left.leaves)
      (lt-ltb n (length left.leaves) lt)

  on_right : (m : ℕ) → number (m + length left.leaves) ≡ place_of_number 0 (variables_left 0 right.leaves right.leaves) m
      + length left.leaves
  on_right m =
      ap (λ (b : Bool). if b then place_of_number 0 (variables_left 0 left.leaves left.leaves) (m + length left.leaves) else
      place_of_number 0 (variables_left 0 right.leaves right.leaves) ((m + length left.leaves) - length left.leaves) + length left.leaves)
      (le-ltb (m + length left.leaves) (length left.leaves) (let le : length left.leaves ≤ m + length left.leaves = omega arith in le))
      ∙ ap (λ (k : ℕ). place_of_number 0 (variables_left 0 right.leaves right.leaves) k + length left.leaves)
      (let e : (m + length left.leaves) - length left.leaves ≡ m = omega arith in e)

  number_rises : (n m r s : ℕ) → OfBoth n r → OfBoth m s → n < m → number n < number m
  number_rises n m r s (inl (lt, leaf)) (inl (lt', leaf')) less =
      let here : place_of_number 0 (variables_left 0 left.leaves left.leaves) n
      < place_of_number 0 (variables_left 0 left.leaves left.leaves) m =
      place_rises data_ left left_done.order n m r s leaf leaf' less in
      omega (arith, here, on_left n lt, on_left m lt')
  number_rises n m r s (inl (lt, leaf)) (inr (k, e, leaf')) less =
      let here : place_of_number 0 (variables_left 0 left.leaves left.leaves) n < length left.leaves =
      place_below data_ left left_done.order n r leaf in
      omega (arith, here, on_left n lt, on_right k, ap number e)
  number_rises n m r s (inr (k, e, leaf)) (inl (lt, leaf')) less = absurd (omega (arith, e, lt, less))
  number_rises n m r s (inr (k, e, leaf)) (inr (k', e', leaf')) less =
      let here : place_of_number 0 (variables_left 0 right.leaves right.leaves) k < place_of_number 0
      (variables_left 0 right.leaves right.leaves) k' = place_rises data_ right right_done.order k k' r s leaf leaf'
      (let lt : k < k' = omega (arith, e, e', less) in lt) in
      omega (arith, here, on_right k, on_right k', ap number e, ap number e')

  abbrev count : ℕ
  count = length left.leaves + length right.leaves

  number_within : (n s : ℕ) → OfBoth n s → number n < length left.leaves + length right.leaves
  number_within n s (inl (lt, leaf)) = let here = place_below data_ left left_done.order n s leaf in omega (arith, here, on_left n lt)
  number_within n s (inr (k, e, leaf)) = let here = place_below data_ right right_done.order k s leaf in
      omega (arith, here, on_right k, ap number e)

  abbrev raised_right : Draft
  raised_right = canonical (substituted (raised (length left.leaves))) right

  abbrev both : Draft
  both = both_drafts left (canonical (substituted (raised (length left.leaves))) right)

  abbrev OverBoth : Term → Type 0
  OverBoth t = TermOver OfBoth number number_rises data_ canon is_canon t

  both_over : EachTerm OverBoth (both_drafts left (canonical (substituted (raised (length left.leaves))) right))
  both_over =
      each_both OverBoth left raised_right
      (terms_in_order data_ left OverBoth (λ t h. (
        (h.0, h.1.sorted),
        λ n s o. let leaf = h.1.own n s o in
            inl (left_done.order.below n s leaf, leaf),
      )) left_done.order)
      (each_changed (IsDraftTerm data_.signature right.leaves) OverBoth (substituted (raised (length left.leaves)))
      (λ t h. (
        (
          h.0,
          substituted_sort data_.signature (raised (length left.leaves)) t h.0 h.1.sorted
              (λ n r o. (refl, occurs_sort data_.signature t h.0 n r h.1.sorted o)),
        ),
        (λ n s o.
            let from : ComesFrom n s (raised (length left.leaves)) t = substituted_occurs n s (raised (length left.leaves)) t o in
            inr (
              from.number,
              sym from.inside.0,
              subst (IsLeaf right.leaves from.number) from.inside.1
                  (h.1.own from.number from.sort from.occurs),
            )),
      ))
      right (terms_in_order data_ right (IsDraftTerm data_.signature right.leaves) (λ t h. h) right_done.order))

  -- the join of the entries is the renamed join
  left_renamed : canonical (substituted (by_number number)) left ≡ draft_with (renumbered left.leaves) left
  left_renamed =
      canonical_same (substituted (by_number number)) (substituted (renumbered left.leaves)) left
      (terms_in_order data_ left (λ t. substituted (by_number number) t ≡ substituted (renumbered left.leaves) t)
      (λ t h. substituted_agree (by_number number) (renumbered left.leaves) t
      (λ n s o. ap (λ (k : ℕ). variable k s) (on_left n (left_done.order.below n s (h.1.own n s o))))) left_done.order)
      ∙ draft_with-in (renumbered left.leaves) left

  right_renamed : canonical (substituted (by_number number)) (canonical (substituted (raised (length left.leaves))) right) ≡ canonical
      (substituted (raised (length left.leaves))) (draft_with (renumbered right.leaves) right)
  right_renamed =
      canonical_twice (substituted (by_number number)) (substituted (raised (length left.leaves))) right
      ∙ (canonical_same (after (substituted (by_number number)) (substituted (raised (length left.leaves))))
      (after (substituted (raised (length left.leaves))) (substituted (renumbered right.leaves))) right
      (terms_in_order data_ right (λ t. substituted (by_number number) (substituted (raised (length left.leaves)) t) ≡ substituted
      (raised (length left.leaves)) (substituted (renumbered right.leaves) t))
      (λ t h.
      substituted_twice (raised (length left.leaves)) (by_number number) t
      ∙ (substituted_agree (followed_by (raised (length left.leaves)) (by_number number))
      (followed_by (renumbered right.leaves) (raised (length left.leaves))) t (λ n s o. ap (λ (k : ℕ). variable k s) (on_right n))
      ∙ sym (substituted_twice (renumbered right.leaves) (raised (length left.leaves)) t)))
      right_done.order)
      ∙ (sym (canonical_twice (substituted (raised (length left.leaves))) (substituted (renumbered right.leaves)) right)
      ∙ ap (canonical (substituted (raised (length left.leaves)))) (draft_with-in (renumbered right.leaves) right)))

  abbrev solved : Draft
  solved = both_drafts (as_draft (entry_of left)) (canonical (substituted (raised (length (as_draft (entry_of left)).leaves)))
      (as_draft (entry_of right)))

  both_renamed : canonical (substituted (by_number number)) (both_drafts left (canonical (substituted (raised (length left.leaves))) right))
      ≡ both_drafts (as_draft (entry_of left)) (canonical (substituted (raised (length (as_draft (entry_of left)).leaves)))
      (as_draft (entry_of right)))
  both_renamed =
      canonical-both (substituted (by_number number)) left raised_right
      ∙ ((λ i. both_drafts (left_renamed i) (right_renamed i))
      ∙ ap (λ (k : ℕ). both_drafts (as_draft (entry_of left)) (canonical (substituted (raised k)) (as_draft (entry_of right))))
      (sym (length-map left.leaves (substituted (renumbered left.leaves)))))

  pub same_solved : (whole : Draft) → Reaches data_ canon is_canon whole left
      (canonical (substituted (raised (length left.leaves))) right) → SameOutcomes canon whole
      (both_drafts (as_draft (entry_of left)) (canonical (substituted (raised (length (as_draft (entry_of left)).leaves)))
      (as_draft (entry_of right))))
  same_solved whole r =
      let last : Draft = tidied canon r.draft in
      let order : IsInOrder data_.signature (tidied canon r.draft) = tidied_in_order data_ canon is_canon r.draft r.order in
      let again : tidied canon (tidied canon r.draft) ≡ tidied canon r.draft = tidied_again data_ canon is_canon r.draft r.order in
      let leaves : (tidied canon r.draft).leaves ≡ map canon (left.leaves ++ map
      (substituted (raised (length left.leaves))) right.leaves) = ap (λ (d : Draft). d.leaves) r.tidy in
      let fits : Fits data_ canon is_canon OfBoth number number_rises (tidied canon r.draft) =
      (order, λ n s leaf. of_both n s (subst (λ (ts : List Term). IsLeaf ts n s) leaves leaf)) in
      let long : length (tidied canon r.draft).leaves ≡ length left.leaves + length right.leaves =
      ap length leaves ∙ (length-map (left.leaves ++ map (substituted (raised (length left.leaves))) right.leaves) canon
      ∙ (length-append left.leaves (map (substituted (raised (length left.leaves))) right.leaves)
      ∙ ap (λ (k : ℕ). length left.leaves + k) (length-map right.leaves (substituted (raised (length left.leaves)))))) in
      same_then r.alike
      (same_then (same_tidied canon r.draft (tidied canon r.draft) (sym again))
      (same_then (same_renamed data_ canon is_canon OfBoth number number_rises (length left.leaves + length right.leaves) number_within
      (tidied canon r.draft) fits long)
      (same_tidied canon (canonical (substituted (by_number number)) (tidied canon r.draft)) solved
      (renamed_tidied data_ canon is_canon OfBoth number number_rises (tidied canon r.draft) fits
      ∙ (ap (canonical (substituted (by_number number))) (again ∙ r.tidy)
      ∙ (sym (tidied_renamed OfBoth number number_rises data_ canon is_canon both both_over)
      ∙ ap (tidied canon) both_renamed))))))
    where
      of_both : (n s : ℕ) → IsLeaf (map canon (left.leaves ++ map (substituted (raised (length left.leaves))) right.leaves)) n s
          → OfBoth n s
      of_both n s (i, at) =
          let from : (t : Term) × (slice_get (left.leaves ++ map (substituted (raised (length left.leaves))) right.leaves) i ≡ Some t)
          × (canon t ≡ variable n s) = from_map canon (left.leaves ++ map
          (substituted (raised (length left.leaves))) right.leaves) i (variable n s) at in
          let over : OverBoth from.0 = Every-at OverBoth (left.leaves ++ map (substituted (raised (length left.leaves))) right.leaves) i
          from.0 both_over.leaves from.1 in
          over.1 n s (is_canon.occurring from.0 n s over.0 (subst (Occurs n s) (sym from.2) (refl, refl)))
