-- The variables that are left in leaves in order: each stands once, with its sort, and their numbers rise.
use Rattle.std.proofs.Common.{◌≡◌, ◌<◌, ◌≤◌, ◌⊎◌, inl, inr, ℕ, zero, suc, ◌+◌, List, [], ◌∷◌, map, length, slice_get, Option, None, Some, Bool, true, false, nat_eq, if◌then◌else◌, refl, ap, sym, ◌∙◌, arith, subst, eqb-true, eq-eqb, ne_eqb}
use Rattle.std.proofs.lemmas.Bool.{cases_order}
use Rattle.lotos_base.specs.Term.{Term, variable, node}
use Rattle.lotos_base.specs.Substitution.{is_listed}
use Rattle.behaviour_semantics.specs.Solving.{leaf_sort, numbered, variables_left, place_of_number}
use Rattle.behaviour_semantics.specs.DraftOrder.{IsLeaf}
use Rattle.behaviour_semantics.proofs.OptionLemmas.{some_value}

-- Where a leaf with a sort was found.
pub leaf_found : (n s : ℕ) (leaves : List Term) → leaf_sort n leaves ≡ Some s → IsLeaf leaves n s
leaf_found n s [] e = absurd (cc e)
leaf_found n s (node f ts ∷ leaves) e = let r : IsLeaf leaves n s = leaf_found n s leaves e in (suc r.0, r.1)
leaf_found n s (variable m q ∷ leaves) e = by (leaf_found n s leaves) (nat_eq m n) refl
  where
    by : (leaf_sort n leaves ≡ Some s → IsLeaf leaves n s) → (same : Bool) → nat_eq m n ≡ same → IsLeaf (variable m q ∷ leaves) n s
    by rest true h =
        let sort : q ≡ s = some_value (rw h at e) in
        (0, ap (λ (k : ℕ). Some (variable k q)) (eqb-true m n h) ∙ ap (λ (k : ℕ). Some (variable n k)) sort)
    by rest false h =
        let below : leaf_sort n leaves ≡ Some s = rw h at e in
        let r : IsLeaf leaves n s = rest below in
        (suc r.0, r.1)

-- A leaf that is the variable is found.
pub leaf_there : (n s : ℕ) (leaves : List Term) (i : ℕ) → slice_get leaves i ≡ Some (variable n s) → (q : ℕ) × (leaf_sort n leaves ≡ Some q)
leaf_there n s [] i e = absurd (cc e)
leaf_there n s (t ∷ leaves) zero e =
    subst (λ (u : Term). (q : ℕ) × (leaf_sort n (u ∷ leaves) ≡ Some q)) (sym (some_value e)) (
      s,
      (let h : (if nat_eq n n then Some s else leaf_sort n leaves) ≡ Some s = rw (eq-eqb n n refl) refl in h),
    )
leaf_there n s (node f ts ∷ leaves) (suc i) e = leaf_there n s leaves i e
leaf_there n s (variable m q ∷ leaves) (suc i) e = by (leaf_there n s leaves i e) (nat_eq m n) refl
  where
    by : (p : ℕ) × (leaf_sort n leaves ≡ Some p) → (same : Bool) → nat_eq m n ≡ same → (p : ℕ)
        × ((if nat_eq m n then Some q else leaf_sort n leaves) ≡ Some p)
    by rest true h = (q, rw h refl)
    by rest false h = (rest.0, rw h rest.1)

-- ---- The list of variables from a number on, as many as a list is long.

-- Each has its sort in the leaves.
left_found : (k : ℕ) (rest leaves : List Term) (i : ℕ) (v : ℕ × ℕ) → slice_get (variables_left k rest leaves) i ≡ Some v
    → leaf_sort v.0 leaves ≡ Some v.1
left_found k [] leaves i v at = absurd (cc at)
left_found k (t ∷ rest) leaves i v at = by (leaf_sort k leaves) refl (left_found (suc k) rest leaves) i at
  where
    by : (o : Option ℕ) → leaf_sort k leaves ≡ o → ((i : ℕ) (v : ℕ × ℕ) → slice_get (variables_left (suc k) rest leaves) i ≡ Some v
        → leaf_sort v.0 leaves ≡ Some v.1)
        → (i : ℕ) → slice_get (numbered k (leaf_sort k leaves) (variables_left (suc k) rest leaves)) i ≡ Some v
        → leaf_sort v.0 leaves ≡ Some v.1
    by None e later i at = later i v (let h : slice_get (variables_left (suc k) rest leaves) i ≡ Some v = rw e at at in h)
    by (Some s) e later zero at =
        let pair : (k, s) ≡ v = some_value (let h : Some (k, s) ≡ Some v = rw e at at in h) in
        subst (λ (w : ℕ × ℕ). leaf_sort w.0 leaves ≡ Some w.1) pair e
    by (Some s) e later (suc i) at = later i v (let h : slice_get (variables_left (suc k) rest leaves) i ≡ Some v = rw e at at in h)

-- Numbers that rise, from a number on.
abbrev pub RisesFrom : ℕ → List (ℕ × ℕ) → Type 0
RisesFrom k [] = Unit {0}
RisesFrom k (v ∷ kept) = (k ≤ v.0) × RisesFrom (suc v.0) kept

rises_earlier : (k : ℕ) (kept : List (ℕ × ℕ)) → RisesFrom (suc k) kept → RisesFrom k kept
rises_earlier k [] h = tt
rises_earlier k (v ∷ kept) h = (omega (arith, h.0), h.1)

pub left_rises : (k : ℕ) (rest leaves : List Term) → RisesFrom k (variables_left k rest leaves)
left_rises k [] leaves = tt
left_rises k (t ∷ rest) leaves = by (leaf_sort k leaves) (left_rises (suc k) rest leaves)
  where
    by : (o : Option ℕ) → RisesFrom (suc k) (variables_left (suc k) rest leaves)
        → RisesFrom k (numbered k o (variables_left (suc k) rest leaves))
    by None later = rises_earlier k (variables_left (suc k) rest leaves) later
    by (Some s) later = (let le : k ≤ k = omega arith in le, later)

above_first : (k : ℕ) (kept : List (ℕ × ℕ)) (i n : ℕ) → RisesFrom k kept → slice_get (map (λ (v : ℕ × ℕ). v.0) kept) i ≡ Some n → k ≤ n
above_first k [] i n h at = absurd (cc at)
above_first k (v ∷ kept) zero n h at = let same : v.0 ≡ n = some_value at in omega (arith, h.0)
above_first k (v ∷ kept) (suc i) n h at = let later : suc v.0 ≤ n = above_first (suc v.0) kept i n h.1 at in omega (arith, h.0)

pub rising_at : (k : ℕ) (kept : List (ℕ × ℕ)) → RisesFrom k kept → (i j m n : ℕ) → i < j
    → slice_get (map (λ (v : ℕ × ℕ). v.0) kept) i ≡ Some m → slice_get (map (λ (v : ℕ × ℕ). v.0) kept) j ≡ Some n → m < n
rising_at k [] h i j m n lt at at' = absurd (cc at)
rising_at k (v ∷ kept) h zero zero m n lt at at' = absurd (omega arith)
rising_at k (v ∷ kept) h zero (suc j) m n lt at at' =
    let same : v.0 ≡ m = some_value at in
    let later : suc v.0 ≤ n = above_first (suc v.0) kept j n h.1 at' in
    omega arith
rising_at k (v ∷ kept) h (suc i) zero m n lt at at' = absurd (omega arith)
rising_at k (v ∷ kept) h (suc i) (suc j) m n lt at at' = rising_at (suc v.0) kept h.1 i j m n (let lower : i < j = omega arith in
    lower) at at'

-- One number stands at one place.
pub one_place : (k : ℕ) (kept : List (ℕ × ℕ)) → RisesFrom k kept → (i j n : ℕ) → slice_get (map (λ (v : ℕ × ℕ). v.0) kept) i ≡ Some n
    → slice_get (map (λ (v : ℕ × ℕ). v.0) kept) j ≡ Some n → i ≡ j
one_place k kept h i j n at at' = by (cases_order i j)
  where
    by : (i ≡ j) ⊎ ((i < j) ⊎ (j < i)) → i ≡ j
    by (inl same) = same
    by (inr (inl lt)) = let less : n < n = rising_at k kept h i j n n lt at at' in absurd (omega arith)
    by (inr (inr lt)) = let less : n < n = rising_at k kept h j i n n lt at' at in absurd (omega arith)

-- Where a variable that is left stands in the list of those.
pub record Place (first n r : ℕ) (kept : List (ℕ × ℕ)) : Type 0 where
  pub at : ℕ
  pub place : place_of_number first kept n ≡ first + at
  pub here : slice_get kept at ≡ Some (n, r)

skipped : (first n r m s : ℕ) (kept : List (ℕ × ℕ)) → (m ≡ n → ⊥) → Place (suc first) n r kept → Place first n r ((m, s) ∷ kept)
skipped first n r m s kept apart p = record {
  at = suc p.at;
  place = (let e : (if nat_eq m n then first else place_of_number (suc first) kept n) ≡ place_of_number (suc first) kept n =
      rw (ne_eqb m n apart) refl in e) ∙ (p.place ∙ (let e : suc first + p.at ≡ first + suc p.at = omega arith in e));
  here = p.here;
}

place_among : (first k : ℕ) (rest leaves : List Term) (n r : ℕ) → k ≤ n → n < k + length rest → leaf_sort n leaves ≡ Some r
    → Place first n r (variables_left k rest leaves)
place_among first k [] leaves n r le lt found = absurd (omega arith)
place_among first k (t ∷ rest) leaves n r le lt found = by (λ f above. place_among f (suc k) rest leaves n r above (omega arith) found)
    (cases_order k n)
  where
    later : ((f : ℕ) → suc k ≤ n → Place f n r (variables_left (suc k) rest leaves)) → k < n → (o : Option ℕ)
        → Place first n r (numbered k o (variables_left (suc k) rest leaves))
    later go above None = go first (omega arith)
    later go above (Some s) = skipped first n r k s (variables_left (suc k) rest leaves) (λ same. omega arith)
        (go (suc first) (omega arith))

    here : k ≡ n → Place first n r (numbered k (leaf_sort k leaves) (variables_left (suc k) rest leaves))
    here same =
        let sort : leaf_sort k leaves ≡ Some r = ap (λ (m : ℕ). leaf_sort m leaves) same ∙ found in
        subst (λ (o : Option ℕ). Place first n r (numbered k o (variables_left (suc k) rest leaves))) (sym sort)
        (record {
          at = 0;
          place = (let h : (if nat_eq k n then first else place_of_number (suc first) (variables_left (suc k) rest leaves) n) ≡ first =
              rw (eq-eqb k n same) refl in h) ∙ (let h : first ≡ first + 0 = omega arith in h);
          here = ap (λ (m : ℕ). Some (m, r)) same;
        })

    by : ((f : ℕ) → suc k ≤ n → Place f n r (variables_left (suc k) rest leaves)) → (k ≡ n) ⊎ ((k < n) ⊎ (n < k))
        → Place first n r (variables_left k (t ∷ rest) leaves)
    by go (inl same) = here same
    by go (inr (inl above)) = later go above (leaf_sort k leaves)
    by go (inr (inr under)) = absurd (omega arith)

-- The list is no longer than as many numbers as are looked at.
pub left_length : (k : ℕ) (rest leaves : List Term) → length (variables_left k rest leaves) ≤ length rest
left_length k [] leaves = omega arith
left_length k (t ∷ rest) leaves = by (leaf_sort k leaves) (left_length (suc k) rest leaves)
  where
    by : (o : Option ℕ) → length (variables_left (suc k) rest leaves) ≤ length rest
        → length (numbered k o (variables_left (suc k) rest leaves)) ≤ suc (length rest)
    by None le = omega arith
    by (Some s) le = omega arith

module _ (leaves : List Term) (below : (n s : ℕ) → IsLeaf leaves n s → n < length leaves) (one_sort : (n r s : ℕ) → IsLeaf leaves n r
    → IsLeaf leaves n s → r ≡ s) where
  abbrev pub kept : List (ℕ × ℕ)
  kept = variables_left 0 leaves leaves

  pub sort_found : (n r : ℕ) → IsLeaf leaves n r → leaf_sort n leaves ≡ Some r
  sort_found n r leaf =
      let there : (q : ℕ) × (leaf_sort n leaves ≡ Some q) = leaf_there n r leaves leaf.0 leaf.1 in
      there.1 ∙ ap (λ (q : ℕ). Some q) (one_sort n there.0 r (leaf_found n there.0 leaves there.1) leaf)

  -- each variable among the leaves stands in the list, at its place
  pub placed : (n r : ℕ) → IsLeaf leaves n r → slice_get (variables_left 0 leaves leaves)
      (place_of_number 0 (variables_left 0 leaves leaves) n) ≡ Some (n, r)
  placed n r leaf =
      let lt : n < length leaves = below n r leaf in
      let p : Place 0 n r (variables_left 0 leaves leaves) = place_among 0 0 leaves leaves n r (omega arith) (omega arith)
      (sort_found n r leaf) in
      let place : place_of_number 0 (variables_left 0 leaves leaves) n ≡ p.at = p.place ∙ (let e : 0 + p.at ≡ p.at = omega arith in e) in
      subst (λ (i : ℕ). slice_get (variables_left 0 leaves leaves) i ≡ Some (n, r)) (sym place) p.here

  -- each that stands there is a leaf
  pub is_leaf : (i : ℕ) (v : ℕ × ℕ) → slice_get (variables_left 0 leaves leaves) i ≡ Some v → IsLeaf leaves v.0 v.1
  is_leaf i v at = leaf_found v.0 v.1 leaves (left_found 0 leaves leaves i v at)

  -- different variables have different places
  pub apart : (n m r q : ℕ) → IsLeaf leaves n r → IsLeaf leaves m q
      → place_of_number 0 (variables_left 0 leaves leaves) n ≡ place_of_number 0
      (variables_left 0 leaves leaves) m → n ≡ m
  apart n m r q leaf other e =
      let same : (n, r) ≡ (m, q) = some_value (sym (placed n r leaf) ∙ (ap (slice_get (variables_left 0 leaves leaves)) e
      ∙ placed m q other)) in
      ap (λ (v : ℕ × ℕ). v.0) same

-- ---- Fewer variables

-- Where each variable among the one leaves is among the others, the one list is no longer.
left_fewer : (k : ℕ) (rest other leaves more : List Term) → length other ≡ length rest
    → ((n q : ℕ) → leaf_sort n more ≡ Some q → (p : ℕ) × (leaf_sort n leaves ≡ Some p))
    → length (variables_left k other more) ≤ length (variables_left k rest leaves)
left_fewer k [] [] leaves more e into = omega arith
left_fewer k [] (u ∷ other) leaves more e into = absurd (omega (arith, e))
left_fewer k (t ∷ rest) [] leaves more e into = absurd (omega (arith, e))
left_fewer k (t ∷ rest) (u ∷ other) leaves more e into = by (leaf_sort k more) (leaf_sort k leaves) refl refl
    (left_fewer (suc k) rest other leaves more (omega (arith, e)) into)
  where
    by : (o p : Option ℕ) → leaf_sort k more ≡ o → leaf_sort k leaves ≡ p
        → length (variables_left (suc k) other more) ≤ length (variables_left (suc k) rest leaves)
        → length (numbered k o (variables_left (suc k) other more)) ≤ length (numbered k p (variables_left (suc k) rest leaves))
    by None None eo ep le = le
    by None (Some s) eo ep le = omega arith
    by (Some q) None eo ep le = let there : (s : ℕ) × (leaf_sort k leaves ≡ Some s) = into k q eo in absurd (cc (ep, there.1))
    by (Some q) (Some s) eo ep le = omega arith

left_less : (k : ℕ) (rest other leaves more : List Term) (m s : ℕ) → length other ≡ length rest
    → ((n q : ℕ) → leaf_sort n more ≡ Some q → (p : ℕ) × (leaf_sort n leaves ≡ Some p)) → k ≤ m → m < k + length rest
    → leaf_sort m more ≡ None → leaf_sort m leaves ≡ Some s → length (variables_left k other more) < length
    (variables_left k rest leaves)
left_less k [] other leaves more m s e into le lt gone was = absurd (omega arith)
left_less k (t ∷ rest) [] leaves more m s e into le lt gone was = absurd (omega (arith, e))
left_less k (t ∷ rest) (u ∷ other) leaves more m s e into le lt gone was =
    by (λ above. left_less (suc k) rest other leaves more m s (omega (arith, e)) into above (omega arith) gone was) (cases_order k m)
  where
    here : k ≡ m → length (numbered k (leaf_sort k more) (variables_left (suc k) other more)) < length
        (numbered k (leaf_sort k leaves) (variables_left (suc k) rest leaves))
    here same =
        let none : leaf_sort k more ≡ None = ap (λ (i : ℕ). leaf_sort i more) same ∙ gone in
        let some : leaf_sort k leaves ≡ Some s = ap (λ (i : ℕ). leaf_sort i leaves) same ∙ was in
        let fewer : length (variables_left (suc k) other more) ≤ length (variables_left (suc k) rest leaves) =
        left_fewer (suc k) rest other leaves more (omega (arith, e)) into in
        subst (λ (o : Option ℕ). length (numbered k o (variables_left (suc k) other more)) < length
        (numbered k (leaf_sort k leaves) (variables_left (suc k) rest leaves))) (sym none)
        (subst (λ (o : Option ℕ). length (variables_left (suc k) other more) < length
        (numbered k o (variables_left (suc k) rest leaves))) (sym some) (omega arith))

    later : length (variables_left (suc k) other more) < length (variables_left (suc k) rest leaves) → (o p : Option ℕ)
        → leaf_sort k more ≡ o → leaf_sort k leaves ≡ p → length (numbered k o (variables_left (suc k) other more)) < length
        (numbered k p (variables_left (suc k) rest leaves))
    later less None None eo ep = less
    later less None (Some q) eo ep = omega arith
    later less (Some q) None eo ep = let there : (p : ℕ) × (leaf_sort k leaves ≡ Some p) = into k q eo in absurd (cc (ep, there.1))
    later less (Some q) (Some p) eo ep = omega arith

    by : (suc k ≤ m → length (variables_left (suc k) other more) < length (variables_left (suc k) rest leaves)) → (k ≡ m)
        ⊎ ((k < m) ⊎ (m < k)) → length (variables_left k (u ∷ other) more) < length (variables_left k (t ∷ rest) leaves)
    by go (inl same) = here same
    by go (inr (inl above)) = later (go (omega arith)) (leaf_sort k more) (leaf_sort k leaves) refl refl
    by go (inr (inr under)) = absurd (omega arith)

-- no leaf is found where none is the variable
none_found : (n : ℕ) (leaves : List Term) → ((s : ℕ) → IsLeaf leaves n s → ⊥) → leaf_sort n leaves ≡ None
none_found n leaves none = by (leaf_sort n leaves) refl
  where
    by : (o : Option ℕ) → leaf_sort n leaves ≡ o → o ≡ None
    by None e = refl
    by (Some s) e = absurd (none s (leaf_found n s leaves e))

module _ (leaves more : List Term) (same_length : length more ≡ length leaves) (comes : (n s : ℕ) → IsLeaf more n s
    → IsLeaf leaves n s) where
  into : (n q : ℕ) → leaf_sort n more ≡ Some q → (p : ℕ) × (leaf_sort n leaves ≡ Some p)
  into n q found = let leaf : IsLeaf leaves n q = comes n q (leaf_found n q more found) in leaf_there n q leaves leaf.0 leaf.1

  pub fewer : length (variables_left 0 more more) ≤ length (variables_left 0 leaves leaves)
  fewer = left_fewer 0 leaves more leaves more same_length into

  -- a variable that is gone makes the list shorter
  pub less : (m s : ℕ) → IsLeaf leaves m s → m < length leaves → ((q : ℕ) → IsLeaf more m q → ⊥)
      → length (variables_left 0 more more) < length (variables_left 0 leaves leaves)
  less m s leaf lt gone =
      let there : (q : ℕ) × (leaf_sort m leaves ≡ Some q) = leaf_there m s leaves leaf.0 leaf.1 in
      left_less 0 leaves more leaves more m there.0 same_length into (omega arith) (omega arith) (none_found m more gone) there.1

pub listed_at : (numbers : List ℕ) (k n : ℕ) → slice_get numbers k ≡ Some n → is_listed numbers n ≡ true
listed_at [] k n at = absurd (cc at)
listed_at (m ∷ numbers) zero n at =
    ap (λ (c : Bool). if c then true else is_listed numbers n) (eq-eqb m n (some_value at))
listed_at (m ∷ numbers) (suc k) n at = by (nat_eq m n) (listed_at numbers k n at)
  where
    by : (c : Bool) → is_listed numbers n ≡ true → (if c then true else is_listed numbers n) ≡ true
    by true rest = refl
    by false rest = rest
