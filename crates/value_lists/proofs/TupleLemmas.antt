-- Tuples and their numbers: each number below the count gives a tuple, each tuple has one, and they rise together.
use native.Mathlib.Nat.{mul_comm}
use Rattle.std.proofs.Common.{◌≡◌, ℕ, zero, suc, ◌+◌, ◌*◌, ◌/◌, ◌%◌, ◌<◌, ◌≤◌, List, [], ◌∷◌, length, get_or, map, Bool, true, false, refl, ap, sym, ◌∙◌, subst, inl, inr, arith}
use Rattle.std.specs.Prelude.{◌⊎◌, Some, slice_get}
use Rattle.std.specs.List.{Contains}
use Rattle.std.proofs.lemmas.List.{get_or_default, length-map}
use Rattle.std.proofs.lemmas.Nat.{div-add-mod', div-mul-add, mod-mul-add, mul-add-lt, div_below, mod_below, mul-le}
use Rattle.std.proofs.lemmas.Option.{same_Some, slice_get-get_or}
use Rattle.lotos_base.specs.Term.{Term, variable}
use Rattle.value_lists.specs.TupleNumbers.{has_empty, tuple_at}
use Rattle.value_lists.specs.Tuples.{IsTuple, tuple_count, TermStandsBefore, TupleBefore, HasEachOnce, AllHaveEachOnce}
use Rattle.lotos_base.proofs.Numbers.{compared}

-- ---- Counts

pub some_left : (m n k : ℕ) → k < m * n → 0 < n
some_left m zero k less = grind (arith, less)
some_left m (suc n) k less = omega arith

pub count_positive : {X : Type 0} (choices : List (List X)) → has_empty choices ≡ false → 0 < tuple_count choices
count_positive [] full = omega arith
count_positive ([] ∷ choices) full = absurd (cc full)
count_positive ((x ∷ choice) ∷ choices) full =
    let rest = count_positive choices full in
    let one = mul-le 1 1 (suc (length choice)) (tuple_count choices) (omega arith) rest in
    omega (arith, one)

pub count_zero : {X : Type 0} (choices : List (List X)) → has_empty choices ≡ true → tuple_count choices ≡ 0
count_zero [] some = absurd (cc some)
count_zero ([] ∷ choices) some = omega arith
count_zero ((x ∷ choice) ∷ choices) some =
    ap (λ (n : ℕ). suc (length choice) * n) (count_zero choices some) ∙ omega arith

pub count_map : {X Y : Type 0} (f : X → Y) (choices : List (List X)) → tuple_count (map (map f) choices) ≡ tuple_count choices
count_map f [] = refl
count_map f (choice ∷ choices) = λ i. length-map choice f i * count_map f choices i

-- ---- A number gives a tuple

pub at_map : {X Y : Type 0} (f : X → Y) (choices : List (List X)) (number : ℕ) (default : X)
    → tuple_at (map (map f) choices) number (f default) ≡ map f (tuple_at choices number default)
at_map f [] number default = refl
at_map {X = X} {Y = Y} f (choice ∷ choices) number default =
    ap (λ (n : ℕ). get_or (map f choice) (number / n) (f default) ∷ tuple_at (map (map f) choices) (number % n) (f default))
    (count_map f choices)
    ∙ (λ i. read choice (number / tuple_count choices) i ∷ at_map f choices (number % tuple_count choices) default i)
  where
    read : (xs : List X) (k : ℕ) → get_or (map f xs) k (f default) ≡ f (get_or xs k default)
    read [] k = refl
    read (x ∷ xs) zero = refl
    read (x ∷ xs) (suc k) = read xs k

-- the place in the first list, and the number of the rest
pub first_place : {X : Type 0} (choice : List X) (choices : List (List X)) (number : ℕ)
    → number < tuple_count (choice ∷ choices)
    → (number / tuple_count choices < length choice) × (number % tuple_count choices < tuple_count choices)
first_place choice choices number less =
    let some = some_left (length choice) (tuple_count choices) number less in (
      div_below number (tuple_count choices) (length choice) some less,
      mod_below number (tuple_count choices) some,
    )

pub at_is_tuple : (choices : List (List Term)) (number : ℕ) (default : Term) → number < tuple_count choices
    → IsTuple choices (tuple_at choices number default)
at_is_tuple [] number default less = tt
at_is_tuple (choice ∷ choices) number default less =
    let place = first_place choice choices number less in (
      (
        number / tuple_count choices,
        place.0,
        get_or_default choice (number / tuple_count choices) (get_or choice (number / tuple_count choices) default) default place.0,
      ),
      at_is_tuple choices (number % tuple_count choices) default place.1,
    )

-- ---- A tuple has a number

pub number_of : (choices : List (List Term)) (ts : List Term) (default : Term) → IsTuple choices ts
    → (number : ℕ) × (number < tuple_count choices) × (tuple_at choices number default ≡ ts)
number_of [] [] default h = (0, omega arith, refl)
number_of [] (t ∷ ts) default h = absurd h
number_of (choice ∷ choices) [] default h = absurd h
number_of (choice ∷ choices) (t ∷ ts) default ((place, within, at), h) =
    let rest = number_of choices ts default h in
    let width : ℕ = tuple_count choices in
    let row : (place * tuple_count choices + rest.0) / tuple_count choices ≡ place =
    div-mul-add place (tuple_count choices) rest.0 rest.1 in
    let column : (place * tuple_count choices + rest.0) % tuple_count choices ≡ rest.0 =
    mod-mul-add place (tuple_count choices) rest.0 rest.1 in
    let first : get_or choice place default ≡ t = get_or_default choice place default t within ∙ at in (
      place * tuple_count choices + rest.0,
      (let less : place * tuple_count choices + rest.0 < tuple_count choices * length choice =
          mul-add-lt place (tuple_count choices) rest.0 (length choice) within rest.1 in
          subst (λ (n : ℕ). place * tuple_count choices + rest.0 < n) (mul_comm (tuple_count choices) (length choice)) less),
      (λ i. get_or choice (row i) default ∷ tuple_at choices (column i) default) ∙ (λ i. first i ∷ rest.2 i),
    )

-- ---- They rise together

stands_before : (choice : List Term) (i j : ℕ) (default : Term) → i < j → j < length choice
    → TermStandsBefore choice (get_or choice i default) (get_or choice j default)
stands_before choice i j default before within =
    (i, j, before, slice_get-get_or choice i default (omega (arith, before, within)), slice_get-get_or choice j default within)

-- the quotients rise, or they are one and the remainders rise
split : (i j w : ℕ) → 0 < w → i < j → (i / w < j / w) ⊎ ((i / w ≡ j / w) × (i % w < j % w))
split i j w some before = go (compared (i / w) (j / w))
  where
    one : i / w * w + i % w ≡ i
    one = div-add-mod' i w

    other : j / w * w + j % w ≡ j
    other = div-add-mod' j w

    go : (i / w < j / w) ⊎ ((i / w ≡ j / w) ⊎ (j / w < i / w)) → (i / w < j / w) ⊎ ((i / w ≡ j / w) × (i % w < j % w))
    go (inl less) = inl less
    go (inr (inl same)) =
        let rows : i / w * w ≡ j / w * w = ap (λ (n : ℕ). n * w) same in
        inr (same, omega (arith, rows, one, other, before))
    go (inr (inr more)) =
        let rows : suc (j / w) * w ≤ i / w * w = mul-le (suc (j / w)) w (i / w) w (omega (arith, more)) (omega arith) in
        let small = mod_below j w some in
        absurd (omega (arith, rows, one, other, small, before))

pub tuples_rise : (choices : List (List Term)) (i j : ℕ) (default : Term) → i < j → j < tuple_count choices
    → TupleBefore choices (tuple_at choices i default) (tuple_at choices j default)
tuples_rise [] i j default before within = omega (arith, before, within)
tuples_rise (choice ∷ choices) i j default before within =
    go (λ less small. tuples_rise choices (i % tuple_count choices) (j % tuple_count choices) default less small)
    (split i j (tuple_count choices) (some_left (length choice) (tuple_count choices) j within) before)
  where
    place : (j / tuple_count choices < length choice) × (j % tuple_count choices < tuple_count choices)
    place = first_place choice choices j within

    go : (i % tuple_count choices < j % tuple_count choices → j % tuple_count choices < tuple_count choices
        → TupleBefore choices (tuple_at choices (i % tuple_count choices) default) (tuple_at choices (j % tuple_count choices) default))
        → (i / tuple_count choices < j / tuple_count choices)
        ⊎ ((i / tuple_count choices ≡ j / tuple_count choices) × (i % tuple_count choices < j % tuple_count choices))
        → TupleBefore (choice ∷ choices) (tuple_at (choice ∷ choices) i default) (tuple_at (choice ∷ choices) j default)
    go rest (inl less) = inl (stands_before choice (i / tuple_count choices) (j / tuple_count choices) default less place.0)
    go rest (inr both) = inr (ap (λ (n : ℕ). get_or choice n default) both.0, rest both.1 place.1)
