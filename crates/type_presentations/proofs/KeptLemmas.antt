-- Lists that keep first appearances, member by member.
use Rattle.std.proofs.Common.{◌≡◌, ℕ, zero, suc, ◌+◌, ◌≤◌, Bool, true, false, List, [], ◌∷◌, ◌++◌, map, length, refl, ap, sym, ◌∙◌, subst, cond, take, arith}
use Rattle.std.specs.Prelude.{Option, Some, None, slice_get, ◌||◌, ◌&&◌, not, if◌then◌else◌, slice_index}
use Rattle.std.specs.List.{list_any, position_or_len}
use Rattle.std.proofs.lemmas.List.{length-append, append-nil}
use Rattle.std.proofs.lemmas.List.Folds.{list_any-append}
use Rattle.std.proofs.lemmas.List.Recursion.{is_position_or_len}
use Rattle.type_definitions.specs.Presentation.{with_new, first_position}
use Rattle.sort_terms.specs.WellFormedTest.{all_differ}

-- ---- First positions.

step : {A : Type 0} (test : A → Bool) (x : A) (xs : List A)
    → first_position test (x ∷ xs) ≡ cond (test x) 0 (1 + first_position test xs)
step test x xs = go (test x)
  where
    go : (b : Bool) → (if b then 0 else suc (first_position test xs)) ≡ cond b 0 (1 + first_position test xs)
    go true = refl
    go false = omega arith

pub first_is_position : {A : Type 0} (test : A → Bool) (xs : List A) → first_position test xs ≡ position_or_len test xs
first_is_position test xs = is_position_or_len (first_position test) test refl (step test) xs

pub first_within : {A : Type 0} (test : A → Bool) (xs : List A) → first_position test xs ≤ length xs
first_within test [] = omega arith
first_within {A = A} test (x ∷ xs) = go (test x) (first_within test xs)
  where
    go : (b : Bool) → first_position test xs ≤ length xs → (if b then 0 else suc (first_position test xs)) ≤ length (x ∷ xs)
    go true rest = omega arith
    go false rest = omega arith

-- a member of this kind that comes behind the list stands at its end, where it is the first one
pub first_at_end : {A : Type 0} (test : A → Bool) (xs : List A) (x : A) → test x ≡ true
    → first_position test (xs ++ x ∷ []) ≡ first_position test xs
first_at_end test [] x is = let e : (if test x then 0 else 1) ≡ 0 = rw is refl in e
first_at_end test (y ∷ ys) x is = ap (λ (n : ℕ). if test y then 0 else suc n) (first_at_end test ys x is)

pub first_of_added : {A : Type 0} (same : A → A → Bool) (xs : List A) (x : A) → same x x ≡ true
    → first_position (same x) (with_new same xs (x ∷ [])) ≡ first_position (same x) xs
first_of_added {A = A} same xs x itself = go (list_any (same x) xs)
  where
    go : (b : Bool) → first_position (same x) (if b then xs else xs ++ x ∷ []) ≡ first_position (same x) xs
    go true = refl
    go false = first_at_end (same x) xs x itself

-- what stands in the list stays where it first stood
first_in_front : {A : Type 0} (test : A → Bool) (xs ys : List A) → list_any test xs ≡ true
    → first_position test (xs ++ ys) ≡ first_position test xs
first_in_front test [] ys h = let e : false ≡ true = h in cc
first_in_front {A = A} test (x ∷ xs) ys h = go (test x) h (first_in_front test xs ys)
  where
    go : (b : Bool) → (b || list_any test xs) ≡ true
        → (list_any test xs ≡ true → first_position test (xs ++ ys) ≡ first_position test xs)
        → (if b then 0 else suc (first_position test (xs ++ ys))) ≡ (if b then 0 else suc (first_position test xs))
    go true there rest = refl
    go false there rest = ap (λ (n : ℕ). suc n) (rest there)

any_in_front : {A : Type 0} (test : A → Bool) (xs ys : List A) → list_any test xs ≡ true → list_any test (xs ++ ys) ≡ true
any_in_front test xs ys h = list_any-append test xs ys ∙ ap (λ (b : Bool). b || list_any test ys) h

pub first_stays : {A : Type 0} (same : A → A → Bool) (test : A → Bool) (kept xs : List A) → list_any test kept ≡ true
    → first_position test (with_new same kept xs) ≡ first_position test kept
first_stays same test kept [] h = refl
first_stays {A = A} same test kept (z ∷ xs) h =
    go (list_any (same z) kept)
    (λ (more : List A) (there : list_any test more ≡ true). first_stays same test more xs there)
  where
    go : (b : Bool)
        → ((more : List A) → list_any test more ≡ true → first_position test (with_new same more xs) ≡ first_position test more)
        → first_position test (with_new same (if b then kept else kept ++ z ∷ []) xs) ≡ first_position test kept
    go true rest = rest kept h
    go false rest =
        rest (kept ++ z ∷ []) (any_in_front test kept (z ∷ []) h) ∙ first_in_front test kept (z ∷ []) h

-- what has been added is there
pub added_is_there : {A : Type 0} (same : A → A → Bool) (kept : List A) (x : A) → same x x ≡ true
    → list_any (same x) (with_new same kept (x ∷ [])) ≡ true
added_is_there same kept x itself = go (list_any (same x) kept) refl
  where
    last : (a : Bool) → (a || (same x x || false)) ≡ true
    last true = refl
    last false = rw itself refl

    go : (b : Bool) → list_any (same x) kept ≡ b → list_any (same x) (if b then kept else kept ++ x ∷ []) ≡ true
    go true is = is
    go false is = list_any-append (same x) kept (x ∷ []) ∙ last (list_any (same x) kept)

-- ---- One after another.

pub then_one : {A : Type 0} (same : A → A → Bool) (kept xs : List A) (x : A)
    → with_new same kept (xs ++ x ∷ []) ≡ with_new same (with_new same kept xs) (x ∷ [])
then_one same kept [] x = refl
then_one same kept (y ∷ ys) x = then_one same (if list_any (same y) kept then kept else kept ++ y ∷ []) ys x

pub one_more : {A : Type 0} (same : A → A → Bool) (kept : List A) (x : A)
    → length (with_new same kept (x ∷ [])) ≤ suc (length kept)
one_more same kept x = go (list_any (same x) kept)
  where
    go : (b : Bool) → length (if b then kept else kept ++ x ∷ []) ≤ suc (length kept)
    go true = omega arith
    go false = omega (arith, length-append kept (x ∷ []))

-- the number that each gets when it comes
abbrev pub numbers_along : {A : Type 0} → (A → A → Bool) → List A → List A → List ℕ
numbers_along same kept [] = []
numbers_along same kept (x ∷ xs) =
    first_position (same x) (with_new same kept (x ∷ [])) ∷ numbers_along same (with_new same kept (x ∷ [])) xs

-- is its number at the end
pub numbers_stay : {A : Type 0} (same : A → A → Bool) → ((x : A) → same x x ≡ true) → (kept xs : List A)
    → numbers_along same kept xs ≡ map (λ x. first_position (same x) (with_new same kept xs)) xs
numbers_stay same itself kept [] = refl
numbers_stay {A = A} same itself kept (x ∷ xs) =
    let now : List A = with_new same kept (x ∷ []) in
    let first : first_position (same x) now ≡ first_position (same x) (with_new same now xs) =
    sym (first_stays same (same x) now xs (added_is_there same kept x (itself x))) in
    let rest : numbers_along same now xs ≡ map (λ y. first_position (same y) (with_new same now xs)) xs =
    numbers_stay same itself now xs in cc

-- ---- What differs.

shuffle : (a b c d : Bool) → (not (a || (b || false)) && (not c && d)) ≡ (not (b || c) && (not a && d))
shuffle true true true d = refl
shuffle true true false d = refl
shuffle true false true d = refl
shuffle true false false d = refl
shuffle false true true d = refl
shuffle false true false d = refl
shuffle false false true d = refl
shuffle false false false d = refl

-- one that comes behind members that differ differs from them where it is like none of them
pub differ_and_one : {A : Type 0} (same : A → A → Bool) → ((x y : A) → same x y ≡ same y x) → (xs : List A) (x : A)
    → all_differ same (xs ++ x ∷ []) ≡ (not (list_any (same x) xs) && all_differ same xs)
differ_and_one same mutual_ [] x = refl
differ_and_one same mutual_ (y ∷ ys) x =
    let rest : all_differ same (ys ++ x ∷ []) ≡ (not (list_any (same x) ys) && all_differ same ys) =
    differ_and_one same mutual_ ys x in
    let any : list_any (same y) (ys ++ x ∷ []) ≡ (list_any (same y) ys || (same y x || false)) =
    list_any-append (same y) ys (x ∷ []) in
    let other : same y x ≡ same x y = mutual_ y x in
    rw (any, rest, other) (shuffle (list_any (same y) ys) (same x y) (list_any (same x) ys) (all_differ same ys))

-- ---- Numbers by old numbers.

pub at_number : {A : Type 0} (f : A → ℕ) (of : Option A → ℕ) → of None ≡ 0 → ((x : A) → of (Some x) ≡ f x)
    → (xs : List A) (n : ℕ) → slice_index (map f xs) n ≡ of (slice_get xs n)
at_number f of none some [] n = sym none
at_number f of none some (x ∷ xs) zero = sym (some x)
at_number f of none some (x ∷ xs) (suc n) = at_number f of none some xs n
