-- The table of sorts says which variables are left, and where each number goes.
use Rattle.std.proofs.Common.{◌≡◌, ◌<◌, ◌≤◌, ℕ, zero, suc, ◌+◌, List, [], ◌∷◌, map, length, slice_get, get_or, drop, ◌-◌, Option, None, Some, true, false, nat_eq, if◌then◌else◌, refl, ap, sym, ◌∙◌, arith, subst, eq-eqb, ne_eqb}
use Rattle.std.specs.Prelude.{unwrap_or, slice_set}
use Rattle.lotos_base.specs.Term.{Term, variable, node}
use Rattle.behaviour_semantics.specs.Solving.{leaf_sort, numbered, variables_left, place_of_number}
use Rattle.behaviour_semantics.proofs.LeftVariables.{RisesFrom, left_rises}
use Rattle.std.proofs.Math.Seq.{drop-cons}
use Rattle.sort_terms.specs.SortedView.{term_in}
use Rattle.sort_terms.specs.declared.sorted.Sorted.{Sorted}
use Rattle.behaviour_tree.specs.BehaviourView.{terms_of}
use Rattle.draft_solving.specs.Variables.{leaf_sorts, sort_noted, places_by_sorts, found_sorts}

place_below : (first k : ℕ) (kept : List (ℕ × ℕ)) (n : ℕ) → RisesFrom k kept → n < k → place_of_number first kept n ≡ n
place_below first k [] n h lt = refl
place_below first k (v ∷ kept) n h lt =
    (let e : (if nat_eq v.0 n then first else place_of_number (suc first) kept n) ≡ place_of_number (suc first) kept n =
    rw (ne_eqb v.0 n (λ same. let le : k ≤ v.0 = h.0 in omega arith)) refl in e)
    ∙ place_below (suc first) (suc v.0) kept n h.1 (let le : k ≤ v.0 = h.0 in omega arith)

-- What the table says of the place of a number, counted from a first one.
abbrev Told : List Term → ℕ → ℕ → List Term → ℕ → Type 0
Told leaves first k rest j =
    unwrap_or (slice_get (places_by_sorts first k (leaf_sorts k rest leaves)) j) (k + j)
    ≡ place_of_number first (variables_left k rest leaves) (k + j)

places_told : (first k : ℕ) (rest leaves : List Term) (j : ℕ) → Told leaves first k rest j
places_told first k [] leaves j = refl
places_told first k (t ∷ rest) leaves j = by (λ f i. places_told f (suc k) rest leaves i) (leaf_sort k leaves) j
  where
    here : nat_eq k (k + 0) ≡ true
    here = eq-eqb k (k + 0) (let e : k ≡ k + 0 = omega arith in e)

    there : (i : ℕ) → nat_eq k (k + suc i) ≡ false
    there i = ne_eqb k (k + suc i) (λ e. omega (arith, e))

    next : ((f i : ℕ) → Told leaves f (suc k) rest i) → (f i : ℕ)
        → unwrap_or (slice_get (places_by_sorts f (suc k) (leaf_sorts (suc k) rest leaves)) i) (k + suc i)
        ≡ place_of_number f (variables_left (suc k) rest leaves) (k + suc i)
    next rec f i = subst (λ (n : ℕ). unwrap_or (slice_get (places_by_sorts f (suc k) (leaf_sorts (suc k) rest leaves)) i) n
        ≡ place_of_number f (variables_left (suc k) rest leaves) n) (let e : suc k + i ≡ k + suc i = omega arith in e) (rec f i)

    by : ((f i : ℕ) → Told leaves f (suc k) rest i) → (o : Option ℕ) (j : ℕ)
        → unwrap_or (slice_get (places_by_sorts first k (o ∷ leaf_sorts (suc k) rest leaves)) j) (k + j)
        ≡ place_of_number first (numbered k o (variables_left (suc k) rest leaves)) (k + j)
    by rec None zero = sym (place_below first (suc k) (variables_left (suc k) rest leaves) (k + 0)
        (left_rises (suc k) rest leaves) (omega arith) ∙ (let e : k + 0 ≡ k = omega arith in e))
    by rec None (suc i) = next rec first i
    by rec (Some s) zero =
        sym (let e : (if nat_eq k (k + 0) then first else place_of_number (suc first) (variables_left (suc k) rest leaves) (k
        + 0)) ≡ first =
        rw here refl in e)
    by rec (Some s) (suc i) = next rec (suc first) i
        ∙ sym
        (let e : (if nat_eq k (k + suc i) then first else place_of_number (suc first) (variables_left (suc k) rest leaves) (k + suc i))
        ≡ place_of_number (suc first) (variables_left (suc k) rest leaves) (k + suc i) = rw (there i) refl in e)

pub renumbered_by_places : (leaves : List Term) (n : ℕ)
    → unwrap_or (slice_get (places_by_sorts 0 0 (leaf_sorts 0 leaves leaves)) n) n ≡ place_of_number 0 (variables_left 0 leaves leaves) n
renumbered_by_places leaves n = subst (λ (m : ℕ). unwrap_or (slice_get (places_by_sorts 0 0 (leaf_sorts 0 leaves leaves)) n) m
    ≡ place_of_number 0 (variables_left 0 leaves leaves) m) (let e : 0 + n ≡ n = omega arith in e) (places_told 0 0 leaves leaves n)

-- the sorts of the variables that are left
pub sorts_told : (k : ℕ) (rest leaves : List Term) → map (λ (v : ℕ × ℕ). v.1) (variables_left k rest leaves) ≡ found_sorts (leaf_sorts k
    rest leaves)
sorts_told k [] leaves = refl
sorts_told k (t ∷ rest) leaves = by (leaf_sort k leaves) (sorts_told (suc k) rest leaves)
  where
    by : (o : Option ℕ) → map (λ (v : ℕ × ℕ). v.1) (variables_left (suc k) rest leaves) ≡ found_sorts (leaf_sorts (suc k) rest leaves)
        → map (λ (v : ℕ × ℕ). v.1) (numbered k o (variables_left (suc k) rest leaves)) ≡ found_sorts (o ∷ leaf_sorts (suc k) rest leaves)
    by None rest = rest
    by (Some s) rest = ap (λ (ss : List ℕ). s ∷ ss) rest

-- one more leaf before the others, whose number is below those that are looked at
past : (m s k : ℕ) (rest leaves : List Term) → m < k → leaf_sorts k rest (variable m s ∷ leaves) ≡ leaf_sorts k rest leaves
past m s k [] leaves lt = refl
past m s k (t ∷ rest) leaves lt =
    let head : (if nat_eq m k then Some s else leaf_sort k leaves) ≡ leaf_sort k leaves =
    rw (ne_eqb m k (λ same. omega (arith, same))) refl in
    let tail : leaf_sorts (suc k) rest (variable m s ∷ leaves) ≡ leaf_sorts (suc k) rest leaves = past m s (suc k) rest leaves (omega
    arith) in
    λ i. head i ∷ tail i

-- and one whose number is the one at a position
variable_first : (m s : ℕ) (k j : ℕ) (rest leaves : List Term) → m ≡ k + j
    → leaf_sorts k rest (variable m s ∷ leaves) ≡ slice_set (leaf_sorts k rest leaves) j (Some s)
variable_first m s k j [] leaves e = refl
variable_first m s k zero (t ∷ rest) leaves e =
    let same : m ≡ k = omega (arith, e) in
    let head : (if nat_eq m k then Some s else leaf_sort k leaves) ≡ Some s = rw (eq-eqb m k same) refl in
    let tail : leaf_sorts (suc k) rest (variable m s ∷ leaves) ≡ leaf_sorts (suc k) rest leaves = past m s (suc k) rest leaves (omega
    (arith, e)) in
    λ i. head i ∷ tail i
variable_first m s k (suc j) (t ∷ rest) leaves e =
    let head : (if nat_eq m k then Some s else leaf_sort k leaves) ≡ leaf_sort k leaves =
    rw (ne_eqb m k (λ same. omega (arith, e, same))) refl in
    let tail : leaf_sorts (suc k) rest (variable m s ∷ leaves) ≡ slice_set (leaf_sorts (suc k) rest leaves) j (Some s) =
    variable_first m s (suc k) j rest leaves (omega (arith, e)) in
    λ i. head i ∷ tail i

node_first : (k : ℕ) (f : ℕ) (ts : _) (rest leaves : List Term) → leaf_sorts k rest (node f ts ∷ leaves) ≡ leaf_sorts k rest leaves
node_first k f ts [] leaves = refl
node_first k f ts (t ∷ rest) leaves = ap (λ (more : List (Option ℕ)). leaf_sort k leaves ∷ more) (node_first (suc k) f ts rest leaves)

pub noted_first : (leaf : Term) (rest leaves : List Term) → leaf_sorts 0 rest (leaf ∷ leaves) ≡ sort_noted leaf (leaf_sorts 0 rest leaves)
noted_first (variable m s) rest leaves = variable_first m s 0 m rest leaves (omega arith)
noted_first (node f ts) rest leaves = node_first 0 f ts rest leaves

-- the table after one more leaf, from the last to the first
pub table_step : (items : List Sorted) (i : ℕ) (x : Sorted) → 0 < i → i ≤ length items → x ≡ get_or items (i - 1) x
    → leaf_sorts 0 (terms_of items) (terms_of (drop (i - 1) items)) ≡ sort_noted (term_in x) (leaf_sorts 0 (terms_of items) (terms_of
    (drop i items)))
table_step items i x lt le is =
    let first : drop (i - 1) items ≡ get_or items (i - 1) x ∷ drop (suc (i - 1)) items = drop-cons items (i - 1) x (omega arith) in
    let again : suc (i - 1) ≡ i = omega arith in
    let here : drop (i - 1) items ≡ x ∷ drop i items =
    first ∙ ap (λ (y : Sorted). y ∷ drop (suc (i - 1)) items) (sym is) ∙ ap (λ (n : ℕ). x ∷ drop n items) again in
    ap (λ (rest : List Sorted). leaf_sorts 0 (terms_of items) (terms_of rest)) here
    ∙ noted_first (term_in x) (terms_of items) (terms_of (drop i items))
