-- The replacement that a condition gives: the draft stays in order, and the variable is gone.
use Rattle.std.proofs.Common.{◌≡◌, ◌<◌, ◌≤◌, ◌⊎◌, inl, inr, ℕ, List, [], ◌∷◌, map, slice_get, Option, None, Some, Bool, true, false, nat_eq, nat_lt, if◌then◌else◌, refl, ap, sym, ◌∙◌, arith, subst, eqb-true, eq-eqb, lt-ltb, le-ltb}
use Rattle.std.proofs.lemmas.Bool.{cases_order}
use Rattle.lotos_base.proofs.Members.{at_map, from_map}
use Rattle.lotos_base.specs.Term.{Term, variable, node}
use Rattle.lotos_base.specs.Tests.{occurs}
use Rattle.lotos_base.specs.Sorting.{HasSort, Occurs}
use Rattle.lotos_base.specs.Equation.{Data}
use Rattle.lotos_base.specs.Equality.{Equal}
use Rattle.lotos_base.specs.Substitution.{Substitution, substituted, followed_by, binding}
use Rattle.lotos_base.proofs.SubstitutionLemmas.{substituted_twice, substituted_sort, substituted_occurs, ComesFrom}
use Rattle.lotos_base.proofs.EqualityLemmas.{equal_then, equal_back, equal_same, equal_values}
use Rattle.lotos_base.proofs.TestLemmas.{Decides-occurs}
use Rattle.behaviour_semantics.specs.Behaviour.{Test}
use Rattle.behaviour_semantics.specs.Replacement.{test_with}
use Rattle.behaviour_semantics.specs.Rule.{AllHold}
use Rattle.behaviour_semantics.specs.Draft.{Draft}
use Rattle.behaviour_semantics.specs.Solving.{one_side, either_side, replacement_of, first_found, first_replacement, replaced}
use Rattle.behaviour_semantics.specs.WellFormed.{Every}
use Rattle.behaviour_semantics.specs.DraftOrder.{IsLeaf, HasLeafVariables, IsDraftTerm, IsDraftTest, IsInOrder}
use Rattle.behaviour_semantics.proofs.OptionLemmas.{some_value}
use Rattle.behaviour_semantics.proofs.ListLemmas.{Every-at}
use Rattle.behaviour_semantics.proofs.RelatedTerms.{occurs_sort}
use Rattle.behaviour_semantics.proofs.DraftsInOrder.{IsChange, changed_in_order, draft_with-in}

-- The substitution that puts one term for one variable.
abbrev pub put_for : (ℕ × Term) → Substitution
put_for found = binding (found ∷ [])

pub put_for-same : (found : ℕ × Term) (n r : ℕ) → found.0 ≡ n → put_for found n r ≡ found.1
put_for-same found n r e = rw (eq-eqb found.0 n e) refl

pub put_for-other : (found : ℕ × Term) (n r : ℕ) → nat_eq found.0 n ≡ false → put_for found n r ≡ variable n r
put_for-other found n r e = rw e refl

module _ (data_ : Data) (leaves : List Term) (one_sort : (n r s : ℕ) → IsLeaf leaves n r → IsLeaf leaves n s → r ≡ s) where
  -- What a replacement rests on: a variable and a term of its sort without that variable, which are equal where
  -- the conditions hold.
  pub record Replaces (tests : List Test) (found : ℕ × Term) : Type 0 where
    pub sort : ℕ
    pub is_variable : HasLeafVariables data_.signature leaves sort (variable found.0 sort)
    pub value : HasLeafVariables data_.signature leaves sort found.1
    pub lacks : (r : ℕ) → Occurs found.0 r found.1 → ⊥
    pub holds : (values : Substitution) → AllHold data_ (map (test_with values) tests)
        → Equal data_ (values found.0 sort) (substituted values found.1)

  -- of one condition, whose sides may be turned
  record One (left right : Term) (found : ℕ × Term) : Type 0 where
    sort : ℕ
    is_variable : HasLeafVariables data_.signature leaves sort (variable found.0 sort)
    value : HasLeafVariables data_.signature leaves sort found.1
    lacks : (r : ℕ) → Occurs found.0 r found.1 → ⊥
    holds : (values : Substitution) → Equal data_ (substituted values left) (substituted values right)
        → Equal data_ (values found.0 sort) (substituted values found.1)

  -- a variable with its sort
  with_sort : (s n r : ℕ) → HasLeafVariables data_.signature leaves s (variable n r) → r ≡ s
  with_sort s n r h = h.sorted.0

  variable_at : (s n r : ℕ) → HasLeafVariables data_.signature leaves s (variable n r)
      → HasLeafVariables data_.signature leaves s (variable n s)
  variable_at s n r h = subst (λ (k : ℕ). HasLeafVariables data_.signature leaves s (variable n k)) (with_sort s n r h) h

  one_side_gives : (s n r : ℕ) (other : Term) (found : ℕ × Term) → HasLeafVariables data_.signature leaves s (variable n r)
      → HasLeafVariables data_.signature leaves s other → one_side (variable n r) other ≡ Some found → One (variable n r) other found
  one_side_gives s n r other found h k e = by (occurs n r other) refl e
    where
      by : (inside : Bool) → occurs n r other ≡ inside → (if inside then None else Some (n, other)) ≡ Some found
          → One (variable n r) other found
      by true t e' = absurd (cc e')
      by false t e' =
          let same : (n, other) ≡ found = some_value e' in
          subst (One (variable n r) other) same (record {
            sort = s;
            is_variable = variable_at s n r h;
            value = k;
            lacks = λ q o. let sorts : q ≡ r = one_sort n q r (k.own n q o) (h.own n r (refl, refl)) in
                absurd (cc (t, (Decides-occurs n r other).1 (subst (λ (m : ℕ). Occurs n m other) sorts o)));
            holds = λ values equal. subst (λ (m : ℕ). Equal data_ (values n m) (substituted values other)) (with_sort s n r h) equal;
          })

  turned_one : (left right : Term) (found : ℕ × Term) → One left right found → One right left found
  turned_one left right found o = record {
    sort = o.sort;
    is_variable = o.is_variable;
    value = o.value;
    lacks = o.lacks;
    holds =
        λ values equal. o.holds values (equal_back equal);
  }

  -- Two bare variables.
  two_give : (s n p m q : ℕ) (found : ℕ × Term) → HasLeafVariables data_.signature leaves s (variable n p)
      → HasLeafVariables data_.signature leaves s (variable m q) → (if nat_lt n m then Some (m, variable n p) else
      (if nat_lt m n then Some (n, variable m q) else None)) ≡ Some found → One (variable n p) (variable m q) found
  two_give s n p m q found h k e = at (cases_order n m)
    where
      later : m < n → One (variable n p) (variable m q) found
      later lt =
          let made : Some (n, variable m q) ≡ Some found = rw (le-ltb n m (let le : m ≤ n = omega arith in le), lt-ltb m n lt) at e in
          subst (One (variable n p) (variable m q)) (some_value made) (record {
            sort = s;
            is_variable = variable_at s n p h;
            value = k;
            lacks = λ r o. let same : m ≡ n = o.0 in omega arith;
            holds = λ values equal. subst (λ (i : ℕ). Equal data_ (values n i) (values m q)) (with_sort s n p h) equal;
          })

      earlier : n < m → One (variable n p) (variable m q) found
      earlier lt =
          let made : Some (m, variable n p) ≡ Some found = rw (lt-ltb n m lt) at e in
          subst (One (variable n p) (variable m q)) (some_value made) (record {
            sort = s;
            is_variable = variable_at s m q k;
            value = h;
            lacks = λ r o. let same : n ≡ m = o.0 in omega arith;
            holds = λ values equal. subst (λ (i : ℕ). Equal data_ (values m i) (values n p)) (with_sort s m q k) (equal_back equal);
          })

      at : (n ≡ m) ⊎ ((n < m) ⊎ (m < n)) → One (variable n p) (variable m q) found
      at (inl same) = absurd (let none : None ≡ Some found = rw (
        le-ltb n m (let le : m ≤ n = omega arith in le),
        le-ltb m n (let le : n ≤ m = omega arith in le),
      ) at e in cc none)
      at (inr (inl lt)) = earlier lt
      at (inr (inr lt)) = later lt

  one_gives : (s : ℕ) (left right : Term) (found : ℕ × Term) → HasLeafVariables data_.signature leaves s left
      → HasLeafVariables data_.signature leaves s right → replacement_of left right ≡ Some found → One left right found
  one_gives s (variable n p) (variable m q) found h k e = two_give s n p m q found h k e
  one_gives s (variable n p) (node g us) found h k e = by (one_side (variable n p) (node g us)) refl e
    where
      by : (o : Option (ℕ × Term)) → one_side (variable n p) (node g us) ≡ o → either_side (variable n p) (node g us) o ≡ Some found
          → One (variable n p) (node g us) found
      by None e' e'' = absurd (cc e'')
      by (Some z) e' e'' = one_side_gives s n p (node g us) found h k (e' ∙ e'')
  one_gives s (node f ts) (variable m q) found h k e = turned_one (variable m q) (node f ts) found
      (one_side_gives s m q (node f ts) found k h e)
  one_gives s (node f ts) (node g us) found h k e = absurd (cc e)

  pub replaces : (tests : List Test) (found : ℕ × Term) → Every (IsDraftTest data_.signature leaves) tests
      → first_replacement tests ≡ Some found → Replaces tests found
  replaces [] found h e = absurd (cc e)
  replaces (test ∷ tests) found h e = by (replaces tests found h.1) (replacement_of test.left test.right) refl e
    where
      by : (first_replacement tests ≡ Some found → Replaces tests found) → (o : Option (ℕ × Term))
          → replacement_of test.left test.right ≡ o → first_found o (first_replacement tests) ≡ Some found
          → Replaces (test ∷ tests) found
      by rest None e' e'' =
          let r : Replaces tests found = rest e'' in
          record { sort = r.sort; is_variable = r.is_variable; value = r.value; lacks = r.lacks; holds = λ values k. r.holds values k.1 }
      by rest (Some z) e' e'' =
          let o : One test.left test.right found = one_gives h.0.0 test.left test.right found h.0.1 h.0.2 (e' ∙ e'') in
          record { sort = o.sort; is_variable = o.is_variable; value = o.value; lacks = o.lacks; holds = λ values k. o.holds values k.0 }

  module _ (tests : List Test) (found : ℕ × Term) (r : Replaces tests found) where
    -- The variable that is replaced has its one sort everywhere.
    only_sort : (u : Term) (s n q : ℕ) → HasLeafVariables data_.signature leaves s u → Occurs n q u → found.0 ≡ n → q ≡ r.sort
    only_sort u s n q fine o same =
        one_sort n q r.sort (fine.own n q o) (subst (λ (m : ℕ). IsLeaf leaves m r.sort) same
        (r.is_variable.own found.0 r.sort (refl, refl)))

    -- a variable of a changed term is another one of the term, or one of the value
    changed_variable : (s : ℕ) (u : Term) → HasLeafVariables data_.signature leaves s u → (n q : ℕ)
        → Occurs n q (substituted (put_for found) u) → IsLeaf leaves n q × (nat_eq found.0 n ≡ false)
    changed_variable s u fine n q o =
        let from : ComesFrom n q (put_for found) u = substituted_occurs n q (put_for found) u o in
        by_number from.number from.sort from.occurs from.inside (nat_eq found.0 from.number) refl
      where
        apart : Occurs n q found.1 → (same : Bool) → nat_eq found.0 n ≡ same → nat_eq found.0 n ≡ false
        apart within true e = let same : found.0 ≡ n = eqb-true found.0 n e in
            absurd (r.lacks q (subst (λ (m : ℕ). Occurs m q found.1) (sym same) within))
        apart within false e = e

        by_number : (m p : ℕ) → Occurs m p u → Occurs n q (put_for found m p) → (same : Bool) → nat_eq found.0 m ≡ same
            → IsLeaf leaves n q × (nat_eq found.0 n ≡ false)
        by_number m p occurs inside true e =
            let same : found.0 ≡ m = eqb-true found.0 m e in
            let within : Occurs n q found.1 = subst (Occurs n q) (put_for-same found m p same) inside in
            (r.value.own n q within, apart within (nat_eq found.0 n) refl)
        by_number m p occurs inside false e =
            let here : (m ≡ n) × (p ≡ q) = subst (Occurs n q) (put_for-other found m p e) inside in (
              subst (λ (k : ℕ). IsLeaf leaves n k) here.1 (subst (λ (k : ℕ). IsLeaf leaves k p) here.0 (fine.own m p occurs)),
              subst (λ (k : ℕ). nat_eq found.0 k ≡ false) here.0 e,
            )

    -- another variable than the replaced one stays the leaf that it is
    pub stays : (n q i : ℕ) → slice_get leaves i ≡ Some (variable n q) → nat_eq found.0 n ≡ false
        → slice_get (map (substituted (put_for found)) leaves) i ≡ Some (variable n q)
    stays n q i at other = at_map (substituted (put_for found)) leaves i (variable n q) at
        ∙ ap (λ (t : Term). Some t) (put_for-other found n q other)

    pub replacement_changes : IsChange data_.signature leaves (substituted (put_for found))
    replacement_changes = record {
      sorted = λ s u fine. substituted_sort data_.signature (put_for found) u s fine.sorted
          (λ n q o. sort_at s u fine n q o (nat_eq found.0 n) refl);
      inside = λ s u fine n q o. (changed_variable s u fine n q o).0;
      own = λ s u fine n q o. let here = changed_variable s u fine n q o in (here.0.0, stays n q here.0.0 here.0.1 here.1);
    }
      where
        sort_at : (s : ℕ) (u : Term) → HasLeafVariables data_.signature leaves s u → (n q : ℕ) → Occurs n q u → (same : Bool)
            → nat_eq found.0 n ≡ same → HasSort data_.signature (put_for found n q) q
        sort_at s u fine n q o true e =
            let same : found.0 ≡ n = eqb-true found.0 n e in
            subst (λ (t : Term). HasSort data_.signature t q) (sym (put_for-same found n q same))
            (subst (HasSort data_.signature found.1) (sym (only_sort u s n q fine o same)) r.value.sorted)
        sort_at s u fine n q o false e =
            let var : HasSort data_.signature (variable n q) q = (refl, occurs_sort data_.signature u s n q fine.sorted o) in
            subst (λ (t : Term). HasSort data_.signature t q) (sym (put_for-other found n q e)) var

    -- Where the variable has the term's value, a replaced term has the value of the term.
    pub replaced_equal : (values : Substitution) → Equal data_ (values found.0 r.sort) (substituted values found.1) → (s : ℕ) (u : Term)
        → HasLeafVariables data_.signature leaves s u → Equal data_ (substituted values (substituted (put_for found) u))
        (substituted values u)
    replaced_equal values equal s u fine =
        equal_then (equal_same data_ _ _ (substituted_twice (put_for found) values u))
        (equal_values data_ (followed_by (put_for found) values) values u (λ n q o. at n q o (nat_eq found.0 n) refl))
      where
        at : (n q : ℕ) → Occurs n q u → (same : Bool) → nat_eq found.0 n ≡ same
            → Equal data_ (followed_by (put_for found) values n q) (values n q)
        at n q o true e =
            let same : found.0 ≡ n = eqb-true found.0 n e in
            let sort : q ≡ r.sort = only_sort u s n q fine o same in
            let here : Equal data_ (values n q) (substituted values found.1) =
            subst (λ (k : ℕ). Equal data_ (values n k) (substituted values found.1)) (sym sort)
            (subst (λ (k : ℕ). Equal data_ (values k r.sort) (substituted values found.1)) same equal) in
            equal_then (equal_same data_ _ _ (ap (substituted values) (put_for-same found n q same))) (equal_back here)
        at n q o false e = equal_same data_ _ _ (ap (substituted values) (put_for-other found n q e))

-- What the first replacement of a draft in order rests on.
pub rests_on : (data_ : Data) (draft : Draft) (found : ℕ × Term) (order : IsInOrder data_.signature draft)
    → first_replacement draft.conditions ≡ Some found → Replaces data_ draft.leaves order.one_sort draft.conditions found
rests_on data_ draft found order gives = replaces data_ draft.leaves order.one_sort draft.conditions found order.conditions gives

pub replaced_in_order : (data_ : Data) (draft : Draft) (found : ℕ × Term) → IsInOrder data_.signature draft
    → first_replacement draft.conditions ≡ Some found → IsInOrder data_.signature (replaced found draft)
replaced_in_order data_ draft found order gives =
    subst (IsInOrder data_.signature) (draft_with-in (put_for found) draft)
    (changed_in_order data_.signature draft (substituted (put_for found)) order
    (replacement_changes data_ draft.leaves order.one_sort draft.conditions found (rests_on data_ draft found order gives)))

-- The variable that is replaced is a leaf, and none any more.
pub was_leaf : (data_ : Data) (draft : Draft) (found : ℕ × Term) (order : IsInOrder data_.signature draft)
    (gives : first_replacement draft.conditions ≡ Some found) → IsLeaf draft.leaves found.0
    (rests_on data_ draft found order gives).sort
was_leaf data_ draft found order gives = let r = rests_on data_ draft found order gives in r.is_variable.own found.0 r.sort (refl, refl)

pub gone : (data_ : Data) (draft : Draft) (found : ℕ × Term) (order : IsInOrder data_.signature draft)
    → first_replacement draft.conditions ≡ Some found → (q : ℕ) → IsLeaf (map (substituted (put_for found)) draft.leaves) found.0 q → ⊥
gone data_ draft found order gives q (i, at) =
    let from : (t : Term) × (slice_get draft.leaves i ≡ Some t) × (substituted (put_for found) t ≡ variable found.0 q) =
    from_map (substituted (put_for found)) draft.leaves i (variable found.0 q) at in
    let term : IsDraftTerm data_.signature draft.leaves from.0 = Every-at
    (IsDraftTerm data_.signature draft.leaves) draft.leaves i from.0 order.leaves from.1 in
    let here : IsLeaf draft.leaves found.0 q × (nat_eq found.0 found.0 ≡ false) =
    changed_variable data_ draft.leaves order.one_sort draft.conditions found
    (rests_on data_ draft found order gives) term.0 from.0 term.1 found.0 q (subst (Occurs found.0 q) (sym from.2) (refl, refl)) in
    absurd (cc (here.1, eq-eqb found.0 found.0 refl))
