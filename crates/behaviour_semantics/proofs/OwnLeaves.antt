-- Where each variable among the leaves is its own leaf, the variables that are left are the leaves that are variables.
use Rattle.std.proofs.Common.{◌≡◌, ℕ, zero, suc, ◌+◌, List, [], ◌∷◌, slice_get, Option, None, Some, Bool, true, false, nat_eq, if◌then◌else◌, refl, ap, sym, ◌∙◌, arith, subst, eqb-true, eq-eqb}
use Rattle.lotos_base.specs.Term.{Term, variable, node}
use Rattle.lotos_base.specs.Sorting.{Occurs}
use Rattle.behaviour_semantics.specs.Solving.{leaf_sort, numbered, variables_left}
use Rattle.behaviour_semantics.proofs.OptionLemmas.{some_value}

abbrev variable_sort : Term → ℕ
variable_sort (variable n s) = s
variable_sort (node f ts) = 0

-- a variable's sort is fixed by its own leaf
pub one_own : (leaves : List Term) (n r s : ℕ) → slice_get leaves n ≡ Some (variable n r) → slice_get leaves n ≡ Some (variable n s) → r ≡ s
one_own leaves n r s e e' = ap variable_sort (some_value (sym e ∙ e'))

abbrev pub Own : List Term → Term → Type 0
Own leaves t = (n r : ℕ) → Occurs n r t → slice_get leaves n ≡ Some (variable n r)

-- The leaves that still are their own variables: number and sort. The first leaf of the list has the number `k`.
abbrev pub own_variable : ℕ → Term → List (ℕ × ℕ) → List (ℕ × ℕ)
own_variable k (variable n s) rest = if nat_eq n k then (n, s) ∷ rest else rest
own_variable k (node f ts) rest = rest

abbrev pub left_over : ℕ → List Term → List (ℕ × ℕ)
left_over k [] = []
left_over k (leaf ∷ leaves) = own_variable k leaf (left_over (suc k) leaves)

-- Where a leaf with a sort was found.
leaf_found : (n s : ℕ) (leaves : List Term) → leaf_sort n leaves ≡ Some s → (i : ℕ) × (slice_get leaves i ≡ Some (variable n s))
leaf_found n s [] e = absurd (cc e)
leaf_found n s (node f ts ∷ leaves) e = let r : (i : ℕ) × (slice_get leaves i ≡ Some (variable n s)) =
    leaf_found n s leaves e in (suc r.0, r.1)
leaf_found n s (variable m q ∷ leaves) e = by (leaf_found n s leaves) (nat_eq m n) refl
  where
    by : (leaf_sort n leaves ≡ Some s → (i : ℕ) × (slice_get leaves i ≡ Some (variable n s))) → (same : Bool) → nat_eq m n ≡ same → (i : ℕ)
        × (slice_get (variable m q ∷ leaves) i ≡ Some (variable n s))
    by rest true h =
        let sort : q ≡ s = some_value (rw h at e) in
        (0, ap (λ (k : ℕ). Some (variable k q)) (eqb-true m n h) ∙ ap (λ (k : ℕ). Some (variable n k)) sort)
    by rest false h =
        let below : leaf_sort n leaves ≡ Some s = rw h at e in
        let r : (i : ℕ) × (slice_get leaves i ≡ Some (variable n s)) = rest below in
        (suc r.0, r.1)

-- A leaf that is the variable is found.
leaf_there : (n s : ℕ) (leaves : List Term) (i : ℕ) → slice_get leaves i ≡ Some (variable n s) → (q : ℕ) × (leaf_sort n leaves ≡ Some q)
leaf_there n s [] i e = absurd (cc e)
leaf_there n s (t ∷ leaves) zero e =
    subst (λ (u : Term). (q : ℕ) × (leaf_sort n (u ∷ leaves) ≡ Some q)) (sym (some_value e))
    (s, (let h : (if nat_eq n n then Some s else leaf_sort n leaves) ≡ Some s = rw (eq-eqb n n refl) refl in h))
leaf_there n s (node f ts ∷ leaves) (suc i) e = leaf_there n s leaves i e
leaf_there n s (variable m q ∷ leaves) (suc i) e = by (leaf_there n s leaves i e) (nat_eq m n) refl
  where
    by : (p : ℕ) × (leaf_sort n leaves ≡ Some p) → (same : Bool) → nat_eq m n ≡ same → (p : ℕ)
        × ((if nat_eq m n then Some q else leaf_sort n leaves) ≡ Some p)
    by rest true h = (q, rw h refl)
    by rest false h = (rest.0, rw h rest.1)

module _ (leaves : List Term) (own : (i : ℕ) (t : Term) → slice_get leaves i ≡ Some t → Own leaves t) where
  -- the sort that is found for a number is that of its own leaf
  found_own : (n s : ℕ) → leaf_sort n leaves ≡ Some s → slice_get leaves n ≡ Some (variable n s)
  found_own n s e = let r : (i : ℕ) × (slice_get leaves i ≡ Some (variable n s)) =
      leaf_found n s leaves e in own r.0 (variable n s) r.1 n s (refl, refl)

  own_found : (n s : ℕ) → slice_get leaves n ≡ Some (variable n s) → leaf_sort n leaves ≡ Some s
  own_found n s e =
      let r : (q : ℕ) × (leaf_sort n leaves ≡ Some q) = leaf_there n s leaves n e in
      r.1 ∙ ap (λ (q : ℕ). Some q) (one_own leaves n r.0 s (found_own n r.0 r.1) e)

  one_number : (k : ℕ) (t : Term) (rest : List (ℕ × ℕ)) → slice_get leaves k ≡ Some t
      → numbered k (leaf_sort k leaves) rest ≡ own_variable k t rest
  one_number k t rest here = by (leaf_sort k leaves) refl
    where
      not_own : leaf_sort k leaves ≡ None → (u : Term) → slice_get leaves k ≡ Some u → rest ≡ own_variable k u rest
      not_own none (node f ts) e = refl
      not_own none (variable m q) e = at (nat_eq m k) refl
        where
          at : (same : Bool) → nat_eq m k ≡ same → rest ≡ own_variable k (variable m q) rest
          at true h =
              let found : leaf_sort k leaves ≡ Some q = own_found k q (e ∙ ap (λ (n : ℕ). Some (variable n q)) (eqb-true m k h)) in
              absurd (cc (none, found))
          at false h = rw h refl

      by : (o : Option ℕ) → leaf_sort k leaves ≡ o → numbered k (leaf_sort k leaves) rest ≡ own_variable k t rest
      by None e = ap (λ (o : Option ℕ). numbered k o rest) e ∙ not_own e t here
      by (Some s) e =
          let same : t ≡ variable k s = some_value (sym here ∙ found_own k s e) in
          ap (λ (o : Option ℕ). numbered k o rest) e
          ∙ sym (ap (λ (u : Term). own_variable k u rest) same
          ∙ (let h : (if nat_eq k k then (k, s) ∷ rest else rest) ≡ (k, s) ∷ rest = rw (eq-eqb k k refl) refl in h))

  all_numbers : (k : ℕ) (rest : List Term) → ((i : ℕ) (t : Term) → slice_get rest i ≡ Some t → slice_get leaves (k + i) ≡ Some t)
      → variables_left k rest leaves ≡ left_over k rest
  all_numbers k [] at = refl
  all_numbers k (t ∷ rest) at =
      ap (numbered k (leaf_sort k leaves)) (all_numbers (suc k) rest
      (λ i u e. subst (λ (n : ℕ). slice_get leaves n ≡ Some u) (let h : k + suc i ≡ suc k + i = omega arith in h) (at (suc i) u e)))
      ∙ one_number k t (left_over (suc k) rest) (subst (λ (n : ℕ). slice_get leaves n ≡ Some t) (let h : k + 0 ≡ k = omega arith in h)
      (at 0 t refl))

  pub same_left : variables_left 0 leaves leaves ≡ left_over 0 leaves
  same_left = all_numbers 0 leaves (λ i t e. subst (λ (n : ℕ). slice_get leaves n ≡ Some t) (let h : i ≡ 0 + i = omega arith in h) e)
