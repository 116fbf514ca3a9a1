-- The entry of a draft in order is solved: nothing is left to do on it, and it is in order again.
use Rattle.std.proofs.Common.{◌≡◌, ◌<◌, ◌≤◌, ◌⊎◌, inl, inr, ℕ, zero, suc, List, [], ◌∷◌, length, map, slice_get, Option, None, Some, Bool, true, false, ◌&&◌, ◌||◌, not, cond, nat_eq, if◌then◌else◌, refl, ap, sym, ◌∙◌, subst, arith, eqb-true, lt-ltb}
use Rattle.std.proofs.lemmas.Bool.{cases_order, le-ltb}
use Rattle.std.proofs.lemmas.List.{length-map}
use Rattle.lotos_base.proofs.Members.{at_map, from_map}
use Rattle.lotos_base.specs.Signature.{IsSort}
use Rattle.lotos_base.specs.Term.{Term, variable, node}
use Rattle.lotos_base.specs.Tests.{term_eq, is_ground, occurs}
use Rattle.lotos_base.specs.Sorting.{IsGround, Occurs}
use Rattle.lotos_base.specs.Equation.{Data}
use Rattle.lotos_base.specs.Substitution.{substituted}
use Rattle.lotos_base.specs.Canon.{IsCanon}
use Rattle.lotos_base.proofs.TestLemmas.{Decides-term_eq, Decides-is_ground, Decides-occurs}
use Rattle.lotos_base.proofs.SubstitutionLemmas.{ComesFrom, substituted_occurs, occurs_substituted, no_variable_ground, ground_no_variable, renamed_same, substituted_sort}
use Rattle.lotos_base.proofs.CanonLemmas.{canon_renamed}
use Rattle.behaviour_semantics.specs.Behaviour.{Test}
use Rattle.behaviour_semantics.specs.Replacement.{test_with}
use Rattle.behaviour_semantics.specs.Rule.{label_values}
use Rattle.behaviour_semantics.specs.Draft.{Draft}
use Rattle.behaviour_semantics.specs.Solving.{Entry, variables_left, place_of_number, entry_of, test_in, differing, has_closed, tidied, one_side, replacement_of, first_found, first_replacement, replaced, SolvesTo, unsolvable, settled, replacing}
use Rattle.behaviour_semantics.specs.SolvingLaws.{IsCanonical, IsOpen, IsTermOver}
use Rattle.behaviour_semantics.specs.WellFormed.{Every}
use Rattle.behaviour_semantics.specs.DraftOrder.{IsLeaf, HasLeafVariables, IsDraftTerm, IsDraftTest, IsInOrder}
use Rattle.behaviour_semantics.specs.DraftOrderLaws.{StandWhereTheyStood, IsSolvedFrom}
use Rattle.behaviour_semantics.proofs.OptionLemmas.{some_value}
use Rattle.behaviour_semantics.proofs.ListLemmas.{Every-at}
use Rattle.behaviour_semantics.proofs.RelatedTerms.{occurs_sort}
use Rattle.behaviour_semantics.proofs.DraftsInOrder.{label_values-in, label_values-with, came_from, canon_changes, tidied_in_order}
use Rattle.behaviour_semantics.proofs.LeftVariables.{left_rises, rising_at, one_place, left_length, placed, is_leaf, apart}
use Rattle.behaviour_semantics.proofs.ReplacementsInOrder.{put_for, replacement_changes, rests_on, replaced_in_order, stays, gone}
use Rattle.behaviour_semantics.proofs.SettledEntries.{renumbered}

-- What a tidied condition says.
pub record Tidy (canon : Term → Term) (test : Test) : Type 0 where
  pub canonical_left : IsCanonical canon test.left
  pub canonical_right : IsCanonical canon test.right
  pub differ : term_eq test.left test.right ≡ false

not_closed_parts : (test : Test) (tests : List Test) → has_closed (test ∷ tests) ≡ false
    → ((is_ground test.left && is_ground test.right) ≡ false) × (has_closed tests ≡ false)
not_closed_parts test tests e = by (is_ground test.left && is_ground test.right) e
  where
    by : (b : Bool) → (b || has_closed tests) ≡ false → (b ≡ false) × (has_closed tests ≡ false)
    by true e = absurd (cc e)
    by false e = (refl, e)

none_parts : (o rest : Option (ℕ × Term)) → first_found o rest ≡ None → (o ≡ None) × (rest ≡ None)
none_parts (Some found) rest e = absurd (cc e)
none_parts None rest e = (refl, e)

abbrev given : ℕ → Term → Option (ℕ × Term)
given n other = Some (n, other)

module _ (leaves : List Term) (one_sort : (n r s : ℕ) → IsLeaf leaves n r → IsLeaf leaves n s → r ≡ s) where
  abbrev IsOwn : ℕ → ℕ → Type 0
  IsOwn n r = IsLeaf leaves n r

  -- Two bare variables of which none is replaced are one.
  both_bare : (n s m q : ℕ) → IsOwn n s → IsOwn m q → replacement_of (variable n s) (variable m q) ≡ None → (m ≡ n) × (q ≡ s)
  both_bare n s m q own own' none = by (cases_order n m)
    where
      same_number : n ≡ m → (m ≡ n) × (q ≡ s)
      same_number e = (sym e, sym (one_sort n s q own (subst (λ (k : ℕ). IsLeaf leaves k q) (sym e) own')))

      by : (n ≡ m) ⊎ ((n < m) ⊎ (m < n)) → (m ≡ n) × (q ≡ s)
      by (inl e) = same_number e
      by (inr (inl lt)) = let some : given m (variable n s) ≡ None = rw (lt-ltb n m lt) at none in absurd (cc some)
      by (inr (inr lt)) = let some : given n (variable m q) ≡ None = rw (
        le-ltb n m (let le : m ≤ n = omega arith in le),
        lt-ltb m n lt,
      ) at none in absurd (cc some)

  occurs_other : (n s : ℕ) (other : Term) → one_side (variable n s) other ≡ None → Occurs n s other
  occurs_other n s other none = by (occurs n s other) refl none
    where
      by : (b : Bool) → occurs n s other ≡ b → (if b then None else given n other) ≡ None → Occurs n s other
      by true e h = (Decides-occurs n s other).0 e
      by false e h = absurd (cc h)

  bare_left : (n s : ℕ) (other : Term) → IsOwn n s → ((m q : ℕ) → Occurs m q other → IsOwn m q)
      → replacement_of (variable n s) other ≡ None → Occurs n s other
  bare_left n s (variable m q) own owns none = both_bare n s m q own (owns m q (refl, refl)) none
  bare_left n s (node f ts) own owns none = by (one_side (variable n s) (node f ts)) refl none
    where
      by : (o : Option (ℕ × Term)) → one_side (variable n s) (node f ts) ≡ o → replacement_of (variable n s) (node f ts) ≡ None
          → Occurs n s (node f ts)
      by None e h = occurs_other n s (node f ts) e
      by (Some found) e h = let some : Some found ≡ None = rw e at h in absurd (cc some)

  bare_right : (n s : ℕ) (other : Term) → IsOwn n s → ((m q : ℕ) → Occurs m q other → IsOwn m q)
      → replacement_of other (variable n s) ≡ None → Occurs n s other
  bare_right n s (variable m q) own owns none =
      let same : (n ≡ m) × (s ≡ q) = both_bare m q n s (owns m q (refl, refl)) own none in
      (sym same.0, sym same.1)
  bare_right n s (node f ts) own owns none = occurs_other n s (node f ts) none

-- ---- A draft on which nothing is left to do, with its variables numbered anew.
module _ (data_ : Data) (canon : Term → Term) (is_canon : IsCanon data_ canon) (leaves : List Term) (below : (n s : ℕ)
    → IsLeaf leaves n s → n < length leaves) (one_sort : (n r s : ℕ) → IsLeaf leaves n r → IsLeaf leaves n s → r ≡ s) where
  abbrev left : List (ℕ × ℕ)
  left = variables_left 0 leaves leaves

  abbrev number : ℕ → ℕ → ℕ
  number n s = place_of_number 0 (variables_left 0 leaves leaves) n

  abbrev IsFine : ℕ → Term → Type 0
  IsFine s t = HasLeafVariables data_.signature leaves s t

  is_placed : (n r : ℕ) → IsLeaf leaves n r
      → slice_get (variables_left 0 leaves leaves) (place_of_number 0 (variables_left 0 leaves leaves) n)
      ≡ Some (n, r)
  is_placed = placed leaves below one_sort

  are_apart : (n m r q : ℕ) → IsLeaf leaves n r → IsLeaf leaves m q → number n r ≡ number m q → n ≡ m
  are_apart = apart leaves below one_sort

  canonical : (s : ℕ) (t : Term) → IsFine s t → IsCanonical canon t → IsCanonical canon (substituted (renumbered leaves) t)
  canonical s t fine h = canon_renamed data_ canon t number is_canon (s, fine.sorted)
      (λ n m r o p e. are_apart n m r r (fine.own n r o) (fine.own m r p) e) h

  abbrev variables : List ℕ
  variables = map (λ (v : ℕ × ℕ). v.1) (variables_left 0 leaves leaves)

  over : (s : ℕ) (t : Term) → IsFine s t → IsTermOver variables (substituted (renumbered leaves) t)
  over s t fine m r o =
      let from : ComesFrom m r (renumbered leaves) t = substituted_occurs m r (renumbered leaves) t o in
      let at : slice_get variables (number from.number from.sort) ≡ Some from.sort =
      at_map (λ (v : ℕ × ℕ). v.1) (variables_left 0 leaves leaves) (number from.number from.sort) (from.number, from.sort)
      (is_placed from.number from.sort (fine.own from.number from.sort from.occurs)) in
      subst (λ (i : ℕ). slice_get variables i ≡ Some r) from.inside.0 (at ∙ ap (λ (q : ℕ). Some q) from.inside.1)

  ground_before : (t : Term) → IsGround (substituted (renumbered leaves) t) → IsGround t
  ground_before t g = no_variable_ground t (λ n s o. ground_no_variable (substituted (renumbered leaves) t) g (number n s) s
      (occurs_substituted (number n s) s n s (renumbered leaves) t o (refl, refl)))

  -- a bare variable after renumbering was one before
  occurs_after : (t other : Term) (n s : ℕ) → ((m q : ℕ) → t ≡ variable m q → Occurs m q other)
      → substituted (renumbered leaves) t ≡ variable n s → Occurs n s (substituted (renumbered leaves) other)
  occurs_after (node f ts) other n s h e = absurd (cc e)
  occurs_after (variable m q) other n s h e =
      let numbers_ : number m q ≡ n = cc in
      let sorts : q ≡ s = cc in
      subst (λ (k : ℕ). Occurs k s (substituted (renumbered leaves) other)) numbers_
      (subst (λ (k : ℕ). Occurs (number m q) k (substituted (renumbered leaves) other)) sorts
      (occurs_substituted (number m q) q m q (renumbered leaves) other (h m q refl) (refl, refl)))

  open_test : (s : ℕ) (test : Test) → IsFine s test.left → IsFine s test.right → Tidy canon test
      → (is_ground test.left && is_ground test.right) ≡ false → replacement_of test.left test.right ≡ None
      → IsOpen canon (test_with (renumbered leaves) test)
  open_test s test left right tidy not_closed none = record {
    canonical_left = canonical s test.left left tidy.canonical_left;
    canonical_right = canonical s test.right right tidy.canonical_right;
    differ = λ e.
        let same : test.left ≡ test.right = renamed_same number test.left test.right
        (λ n m r o p e'. are_apart n m r r (left.own n r o) (right.own m r p) e') e in
        absurd (cc (tidy.differ, (Decides-term_eq test.left test.right).1 same));
    not_closed = λ g h.
        let left_ground : is_ground test.left ≡ true = (Decides-is_ground test.left).1 (ground_before test.left g) in
        let right_ground : is_ground test.right ≡ true = (Decides-is_ground test.right).1 (ground_before test.right h) in
        let both : true ≡ false = rw (left_ground, right_ground) at not_closed in
        absurd (cc both);
    left_occurs = λ n r e. occurs_after test.left test.right n r
        (λ m q same. bare_left leaves one_sort m q test.right (left.own m q (subst (Occurs m q) (sym same) (refl, refl))) right.own
        (subst (λ (t : Term). replacement_of t test.right ≡ None) same none)) e;
    right_occurs = λ n r e. occurs_after test.right test.left n r
        (λ m q same. bare_right leaves one_sort m q test.left (right.own m q (subst (Occurs m q) (sym same) (refl, refl))) left.own
        (subst (λ (t : Term). replacement_of test.left t ≡ None) same none)) e;
  }

  open_tests : (tests : List Test) → Every (IsDraftTest data_.signature leaves) tests → Every (Tidy canon) tests
      → has_closed tests ≡ false → first_replacement tests ≡ None → Every (IsOpen canon) (map (test_with (renumbered leaves)) tests)
  open_tests [] f t closed none = tt
  open_tests (test ∷ tests) f t closed none =
      let not_closed : _ × _ = not_closed_parts test tests closed in
      let nothing : _ × _ = none_parts (replacement_of test.left test.right) (first_replacement tests) none in
      (open_test f.0.0 test f.0.1 f.0.2 t.0 not_closed.0 nothing.0, open_tests tests f.1 t.1 not_closed.1 nothing.1)

  over_left : (tests : List Test) → Every (IsDraftTest data_.signature leaves) tests
      → Every (λ (test : Test). IsTermOver variables test.left) (map (test_with (renumbered leaves)) tests)
  over_left [] f = tt
  over_left (test ∷ tests) f = (over f.0.0 test.left f.0.1, over_left tests f.1)

  over_right : (tests : List Test) → Every (IsDraftTest data_.signature leaves) tests
      → Every (λ (test : Test). IsTermOver variables test.right) (map (test_with (renumbered leaves)) tests)
  over_right [] f = tt
  over_right (test ∷ tests) f = (over f.0.0 test.right f.0.2, over_right tests f.1)

  canonical_values : (ts : List Term) → Every (IsDraftTerm data_.signature leaves) ts → Every (IsCanonical canon) ts
      → Every (IsCanonical canon) (map (substituted (renumbered leaves)) ts)
  canonical_values [] f h = tt
  canonical_values (t ∷ ts) f h = (canonical f.0.0 t f.0.1 h.0, canonical_values ts f.1 h.1)

  over_values : (ts : List Term) → Every (IsDraftTerm data_.signature leaves) ts
      → Every (IsTermOver variables) (map (substituted (renumbered leaves)) ts)
  over_values [] f = tt
  over_values (t ∷ ts) f = (over f.0.0 t f.0.1, over_values ts f.1)

  -- the renumbered leaves are those of a draft in order
  renumbered_term : (s : ℕ) (t : Term) → IsFine s t → HasLeafVariables data_.signature (map (substituted (renumbered leaves)) leaves) s
      (substituted (renumbered leaves) t)
  renumbered_term s t fine = record {
    sorted = substituted_sort data_.signature (renumbered leaves) t s fine.sorted
        (λ n r o. (refl, occurs_sort data_.signature t s n r fine.sorted o));
    own = λ m r o.
        let from : ComesFrom m r (renumbered leaves) t = substituted_occurs m r (renumbered leaves) t o in
        let leaf : IsLeaf leaves from.number from.sort = fine.own from.number from.sort from.occurs in (
          leaf.0,
          at_map (substituted (renumbered leaves)) leaves leaf.0 (variable from.number from.sort) leaf.1
              ∙ ap (λ (n : ℕ). Some (variable n from.sort)) from.inside.0 ∙ ap (λ (q : ℕ). Some (variable m q)) from.inside.1,
        );
  }

  renumbered_terms : (ts : List Term) → Every (IsDraftTerm data_.signature leaves) ts
      → Every (IsDraftTerm data_.signature (map (substituted (renumbered leaves)) leaves)) (map (substituted (renumbered leaves)) ts)
  renumbered_terms [] h = tt
  renumbered_terms (t ∷ ts) h = ((h.0.0, renumbered_term h.0.0 t h.0.1), renumbered_terms ts h.1)

  renumbered_tests : (tests : List Test) → Every (IsDraftTest data_.signature leaves) tests
      → Every (IsDraftTest data_.signature (map (substituted (renumbered leaves)) leaves)) (map (test_with (renumbered leaves)) tests)
  renumbered_tests [] h = tt
  renumbered_tests (test ∷ tests) h = (
    (h.0.0, renumbered_term h.0.0 test.left h.0.1, renumbered_term h.0.0 test.right h.0.2),
    renumbered_tests tests h.1,
  )

  -- which variable a renumbered leaf was
  was_variable : (k s : ℕ) (t : Term) → substituted (renumbered leaves) t ≡ variable k s → (n : ℕ) × (t ≡ variable n s) × (number n s ≡ k)
  was_variable k s (node f ts) e = absurd (cc e)
  was_variable k s (variable n q) e =
      let numbers_ : number n q ≡ k = cc e in
      let sorts : q ≡ s = cc e in
      (n, ap (variable n) sorts, numbers_)

  renumbered_leaf : (k s : ℕ) → IsLeaf (map (substituted (renumbered leaves)) leaves) k s → (n : ℕ) × IsLeaf leaves n s
      × (slice_get (variables_left 0 leaves leaves) k ≡ Some (n, s))
  renumbered_leaf k s (i, at) =
      let from : (t : Term) × (slice_get leaves i ≡ Some t) × (substituted (renumbered leaves) t ≡ variable k s) =
      from_map (substituted (renumbered leaves)) leaves i (variable k s) at in
      let was : (n : ℕ) × (from.0 ≡ variable n s) × (number n s ≡ k) = was_variable k s from.0 from.2 in
      let leaf : IsLeaf leaves was.0 s = (i, from.1 ∙ ap (λ (t : Term). Some t) was.1) in
      (was.0, leaf, subst (λ (j : ℕ). slice_get (variables_left 0 leaves leaves) j ≡ Some (was.0, s)) was.2 (is_placed was.0 s leaf))

  renumbered_below : (k s : ℕ) → IsLeaf (map (substituted (renumbered leaves)) leaves) k s
      → k < length (map (substituted (renumbered leaves)) leaves)
  renumbered_below k s leaf =
      let was = renumbered_leaf k s leaf in
      let lt : k < length (variables_left 0 leaves leaves) = within (variables_left 0 leaves leaves) k (was.0, s) was.2 in
      let le : length (variables_left 0 leaves leaves) ≤ length leaves = left_length 0 leaves leaves in
      omega (arith, lt, le, length-map leaves (substituted (renumbered leaves)))
    where
      within : (vs : List (ℕ × ℕ)) (j : ℕ) (v : ℕ × ℕ) → slice_get vs j ≡ Some v → j < length vs
      within [] j v e = absurd (cc e)
      within (w ∷ vs) zero v e = omega arith
      within (w ∷ vs) (suc j) v e = let lt : j < length vs = within vs j v e in omega arith

  renumbered_one_sort : (k r s : ℕ) → IsLeaf (map (substituted (renumbered leaves)) leaves) k r
      → IsLeaf (map (substituted (renumbered leaves)) leaves) k s → r ≡ s
  renumbered_one_sort k r s leaf other =
      let was = renumbered_leaf k r leaf in
      let and_ = renumbered_leaf k s other in
      ap (λ (v : ℕ × ℕ). v.1) (some_value (sym was.2 ∙ and_.2))

  -- sorts of leaves that are variables
  sorts_left : Every (IsDraftTerm data_.signature leaves) leaves → (vs : List (ℕ × ℕ))
      → ((i : ℕ) (v : ℕ × ℕ) → slice_get vs i ≡ Some v → IsLeaf leaves v.0 v.1)
      → Every (IsSort data_.signature) (map (λ (v : ℕ × ℕ). v.1) vs)
  sorts_left sorted [] leaf = tt
  sorts_left sorted (v ∷ vs) leaf =
      let here : IsLeaf leaves v.0 v.1 = leaf 0 v refl in
      let term : IsDraftTerm data_.signature leaves (variable v.0 v.1) =
      Every-at (IsDraftTerm data_.signature leaves) leaves here.0 (variable v.0 v.1) sorted here.1 in
      (term.1.sorted.1, sorts_left sorted vs (λ i w at. leaf (suc i) w at))

  stand : StandWhereTheyStood leaves (map (λ (v : ℕ × ℕ). v.1) (variables_left 0 leaves leaves))
      (map (substituted (renumbered leaves)) leaves) (map (λ (v : ℕ × ℕ). v.0) (variables_left 0 leaves leaves))
  stand = record {
    rising = λ j k m n lt at at'. rising_at 0 (variables_left 0 leaves leaves) (left_rises 0 leaves leaves) j k m n lt at at';
    number = λ k s at.
        let v : (v : ℕ × ℕ) × (slice_get (variables_left 0 leaves leaves) k ≡ Some v) × (v.1 ≡ s) =
        from_map (λ (v : ℕ × ℕ). v.1) (variables_left 0 leaves leaves) k s at in (
          v.0.0,
          at_map (λ (w : ℕ × ℕ). w.0) (variables_left 0 leaves leaves) k v.0 v.1,
          subst (IsLeaf leaves v.0.0) v.2 (is_leaf leaves below one_sort k v.0 v.1),
        );
    leaf = λ k s n i at number_at leaf_at.
        let here : slice_get (variables_left 0 leaves leaves) (number n s) ≡ Some (n, s) = is_placed n s (i, leaf_at) in
        let again : slice_get (map (λ (v : ℕ × ℕ). v.0) (variables_left 0 leaves leaves)) (number n s) ≡ Some n =
        at_map (λ (w : ℕ × ℕ). w.0) (variables_left 0 leaves leaves) (number n s) (n, s) here in
        let same : number n s ≡ k = one_place 0 (variables_left 0 leaves leaves) (left_rises 0 leaves leaves)
        (number n s) k n again number_at in
        at_map (substituted (renumbered leaves)) leaves i (variable n s) leaf_at ∙ ap (λ (j : ℕ). Some (variable j s)) same;
  }

module _ (data_ : Data) (canon : Term → Term) (is_canon : IsCanon data_ canon) where
  tidy_entry : (draft : Draft) → IsInOrder data_.signature draft → Every (IsCanonical canon) (label_values draft.label)
      → Every (IsCanonical canon) draft.leaves → Every (Tidy canon) draft.conditions → has_closed draft.conditions ≡ false
      → first_replacement draft.conditions ≡ None → IsSolvedFrom data_.signature canon draft (entry_of draft)
  tidy_entry draft order values leaves tests closed none = record {
    shape = refl;
    values = subst (Every (IsCanonical canon)) (sym (label_values-with (renumbered draft.leaves) draft.label))
        (canonical_values data_ canon is_canon draft.leaves order.below order.one_sort (label_values draft.label) order.values values);
    leaves = canonical_values data_ canon is_canon draft.leaves order.below order.one_sort draft.leaves order.leaves leaves;
    conditions = open_tests data_ canon is_canon draft.leaves order.below order.one_sort draft.conditions order.conditions tests closed
        none;
    sorts = sorts_left data_ canon is_canon draft.leaves order.below order.one_sort order.leaves
        (variables_left 0 draft.leaves draft.leaves) (λ i v at. is_leaf draft.leaves order.below order.one_sort i v at);
    over_values = subst (Every (IsTermOver (variables data_ canon is_canon draft.leaves order.below order.one_sort)))
        (sym (label_values-with (renumbered draft.leaves) draft.label))
        (over_values data_ canon is_canon draft.leaves order.below order.one_sort (label_values draft.label) order.values);
    over_leaves = over_values data_ canon is_canon draft.leaves order.below order.one_sort draft.leaves order.leaves;
    over_left = over_left data_ canon is_canon draft.leaves order.below order.one_sort draft.conditions order.conditions;
    over_right = over_right data_ canon is_canon draft.leaves order.below order.one_sort draft.conditions order.conditions;
    as_draft = record {
      values = subst (Every (IsDraftTerm data_.signature (map (substituted (renumbered draft.leaves)) draft.leaves)))
          (sym (label_values-with (renumbered draft.leaves) draft.label))
          (renumbered_terms data_ canon is_canon draft.leaves order.below order.one_sort (label_values draft.label) order.values);
      leaves = renumbered_terms data_ canon is_canon draft.leaves order.below order.one_sort draft.leaves order.leaves;
      conditions = renumbered_tests data_ canon is_canon draft.leaves order.below order.one_sort draft.conditions order.conditions;
      below = renumbered_below data_ canon is_canon draft.leaves order.below order.one_sort;
      one_sort = renumbered_one_sort data_ canon is_canon draft.leaves order.below order.one_sort;
    };
    numbers = map (λ (v : ℕ × ℕ). v.0) (variables_left 0 draft.leaves draft.leaves);
    stand = stand data_ canon is_canon draft.leaves order.below order.one_sort;
  }

  settled_values : (leaves ts : List Term) → Every (IsDraftTerm data_.signature leaves) ts → Every (IsCanonical canon) (map canon ts)
  settled_values leaves [] f = tt
  settled_values leaves (t ∷ ts) f = (is_canon.settled t (f.0.0, f.0.1.sorted), settled_values leaves ts f.1)

  pub tidy_tests : (leaves : List Term) (tests : List Test) → Every (IsDraftTest data_.signature leaves) tests
      → Every (Tidy canon) (differing (map (test_in canon) tests))
  tidy_tests leaves [] f = tt
  tidy_tests leaves (test ∷ tests) f = by (term_eq (canon test.left) (canon test.right)) refl (tidy_tests leaves tests f.1)
    where
      by : (same : Bool) → term_eq (canon test.left) (canon test.right) ≡ same
          → Every (Tidy canon) (differing (map (test_in canon) tests))
          → Every (Tidy canon) (cond (not same) (test_in canon test ∷ differing (map (test_in canon) tests))
          (differing (map (test_in canon) tests)))
      by true e rest = rest
      by false e rest = (
        record {
          canonical_left = is_canon.settled test.left (f.0.0, f.0.1.sorted);
          canonical_right =
              is_canon.settled test.right (f.0.0, f.0.2.sorted);
          differ = e;
        },
        rest,
      )

  -- a step leaves the variables that are left where they stood
  stood : (before more : List Term) (sorts : List ℕ) (leaves : List Term) (numbers : List ℕ)
      → ((n s : ℕ) → IsLeaf more n s → IsLeaf before n s) → ((n s i : ℕ) → IsLeaf more n s → slice_get before i ≡ Some (variable n s)
      → slice_get more i ≡ Some (variable n s)) → StandWhereTheyStood more sorts leaves numbers
      → StandWhereTheyStood before sorts leaves numbers
  stood before more sorts leaves numbers came stay h = record {
    rising = h.rising;
    number = λ k s at. let n = h.number k s at in (n.0, n.1, came n.0 s n.2);
    leaf = λ k s n i at number_at leaf_at.
        let known = h.number k s at in
        let same : known.0 ≡ n = some_value (sym known.1 ∙ number_at) in
        h.leaf k s n i at number_at (stay n s i (subst (λ (m : ℕ). IsLeaf more m s) same known.2) leaf_at);
  }

  from_draft : (draft more : Draft) (entry : Entry) → more.shape ≡ draft.shape
      → ((n s : ℕ) → IsLeaf more.leaves n s → IsLeaf draft.leaves n s)
      → ((n s i : ℕ) → IsLeaf more.leaves n s → slice_get draft.leaves i ≡ Some (variable n s)
      → slice_get more.leaves i ≡ Some (variable n s)) → IsSolvedFrom data_.signature canon more entry
      → IsSolvedFrom data_.signature canon draft entry
  from_draft draft more entry shapes came stay h = record {
    shape = h.shape ∙ shapes;
    values = h.values;
    leaves = h.leaves;
    conditions = h.conditions;
    sorts = h.sorts;
    over_values = h.over_values;
    over_leaves = h.over_leaves;
    over_left = h.over_left;
    over_right = h.over_right;
    as_draft = h.as_draft;
    numbers = h.numbers;
    stand = stood draft.leaves more.leaves entry.variables entry.leaves h.numbers came stay h.stand;
  }

  from_tidied : (draft : Draft) (entry : Entry) → IsInOrder data_.signature draft
      → IsSolvedFrom data_.signature canon (tidied canon draft) entry → IsSolvedFrom data_.signature canon draft entry
  from_tidied draft entry order h =
      from_draft draft (tidied canon draft) entry refl
      (came_from data_.signature draft.leaves canon (canon_changes data_ canon is_canon draft.leaves) order.leaves)
      (λ n s i leaf at. at_map canon draft.leaves i (variable n s) at ∙ ap (λ (t : Term). Some t) (is_canon.variables n s)) h

  from_replaced : (draft : Draft) (found : ℕ × Term) (entry : Entry) → IsInOrder data_.signature draft
      → first_replacement draft.conditions ≡ Some found → IsSolvedFrom data_.signature canon (replaced found draft) entry
      → IsSolvedFrom data_.signature canon draft entry
  from_replaced draft found entry order gives h =
      from_draft draft (replaced found draft) entry refl
      (came_from data_.signature draft.leaves (substituted (put_for found))
      (replacement_changes data_ draft.leaves order.one_sort draft.conditions found (rests_on data_ draft found order gives))
      order.leaves)
      (λ n s i leaf at. stays data_ draft.leaves order.one_sort draft.conditions found (rests_on data_ draft found order gives) n s i at
      (other n s leaf (nat_eq found.0 n) refl)) h
    where
      other : (n s : ℕ) → IsLeaf (map (substituted (put_for found)) draft.leaves) n s → (same : Bool) → nat_eq found.0 n ≡ same
          → nat_eq found.0 n ≡ false
      other n s leaf true e = absurd (gone data_ draft found order gives s
          (subst (λ (m : ℕ). IsLeaf (map (substituted (put_for found)) draft.leaves) m s) (sym (eqb-true found.0 n e)) leaf))
      other n s leaf false e = e

  abbrev SolvedOutcome : Draft → Option Entry → Type 0
  SolvedOutcome draft None = Unit {0}
  SolvedOutcome draft (Some entry) = IsSolvedFrom data_.signature canon draft entry

  carried : (draft : Draft) (found : ℕ × Term) (outcome : Option Entry) → IsInOrder data_.signature draft
      → IsInOrder data_.signature (tidied canon draft) → first_replacement (tidied canon draft).conditions ≡ Some found
      → SolvedOutcome (replaced found (tidied canon draft)) outcome → SolvedOutcome draft outcome
  carried draft found None order order' gives h = tt
  carried draft found (Some entry) order order' gives h = from_tidied draft entry order
      (from_replaced (tidied canon draft) found entry order' gives h)

  pub solved_outcome : {draft : Draft} {outcome : Option Entry} → SolvesTo canon draft outcome → IsInOrder data_.signature draft
      → SolvedOutcome draft outcome
  solved_outcome (unsolvable draft closed) order = tt
  solved_outcome (settled draft not_closed none) order =
      from_tidied draft (entry_of (tidied canon draft)) order
      (tidy_entry (tidied canon draft) (tidied_in_order data_ canon is_canon draft order)
      (subst (Every (IsCanonical canon)) (sym (label_values-in canon draft.label))
      (settled_values draft.leaves (label_values draft.label) order.values))
      (settled_values draft.leaves draft.leaves order.leaves)
      (tidy_tests draft.leaves draft.conditions order.conditions) not_closed none)
  solved_outcome (replacing draft found outcome not_closed gives rest) order =
      let order' : IsInOrder data_.signature (tidied canon draft) = tidied_in_order data_ canon is_canon draft order in
      carried draft found outcome order order' gives (solved_outcome rest (replaced_in_order data_ (tidied canon draft) found order' gives))
