-- Whether a member of a list is marked.
use Rattle.std.proofs.Common.{◌≡◌, ℕ, zero, suc, ◌+◌, ◌<◌, ◌≤◌, Bool, true, false, List, [], ◌∷◌, map, length, drop, refl, ap, sym, ◌∙◌, arith}
use Rattle.std.specs.Prelude.{◌||◌, nat_lt, if◌then◌else◌}
use Rattle.std.proofs.lemmas.Bool.{lt-ltb}
use Rattle.type_definitions.specs.Presentation.{is_marked_number}
use Rattle.type_definitions.specs.Actualisation.{marked_from}

-- whether one from this position on is
abbrev pub some_marked : {A : Type 0} → List ℕ → ℕ → List A → Bool
some_marked marks number xs = nat_lt 0 (length (marked_from marks number xs))

pub first_marked : {A : Type 0} (marks : List ℕ) (number : ℕ) (x : A) (xs : List A) → is_marked_number marks number ≡ true
    → some_marked marks number (x ∷ xs) ≡ true
first_marked {A = A} marks number x xs h =
    let rest : List A = marked_from marks (suc number) xs in
    ap (λ (b : Bool). nat_lt 0 (length (if b then x ∷ rest else rest))) h ∙ lt-ltb 0 (suc (length rest)) (omega arith)

pub first_unmarked : {A : Type 0} (marks : List ℕ) (number : ℕ) (x : A) (xs : List A) → is_marked_number marks number ≡ false
    → some_marked marks number (x ∷ xs) ≡ some_marked marks (suc number) xs
first_unmarked {A = A} marks number x xs h =
    let rest : List A = marked_from marks (suc number) xs in ap (λ (b : Bool). nat_lt 0 (length (if b then x ∷ rest else rest))) h

pub marked_images : {A B : Type 0} (f : A → B) (marks : List ℕ) (number : ℕ) (xs : List A)
    → some_marked marks number (map f xs) ≡ some_marked marks number xs
marked_images f marks number xs = ap (λ (n : ℕ). nat_lt 0 n) (as_many f marks number xs)
  where
    as_many : {A B : Type 0} (f : A → B) (marks : List ℕ) (number : ℕ) (xs : List A)
        → length (marked_from marks number (map f xs)) ≡ length (marked_from marks number xs)
    as_many f marks number [] = refl
    as_many {A = A} {B = B} f marks number (x ∷ xs) = go (is_marked_number marks number) (as_many f marks (suc number) xs)
      where
        go : (b : Bool) → length (marked_from marks (suc number) (map f xs)) ≡ length (marked_from marks (suc number) xs)
            → length (if b then f x ∷ marked_from marks (suc number) (map f xs) else marked_from marks (suc number) (map f xs))
            ≡ length (if b then x ∷ marked_from marks (suc number) xs else marked_from marks (suc number) xs)
        go true rest = ap (λ (n : ℕ). suc n) rest
        go false rest = rest

-- ---- From a position on.

pub none_left : {A : Type 0} (marks : List ℕ) (k i : ℕ) (xs : List A) → length xs ≤ i → some_marked marks k (drop i xs) ≡ false
none_left marks k zero [] h = refl
none_left marks k (suc i) [] h = refl
none_left marks k zero (x ∷ xs) h = absurd (omega arith)
none_left marks k (suc i) (x ∷ xs) h = none_left marks k i xs (omega arith)

pub some_here : {A : Type 0} (marks : List ℕ) (k i : ℕ) (xs : List A) → i < length xs → is_marked_number marks k ≡ true
    → some_marked marks k (drop i xs) ≡ true
some_here marks k i [] h is = absurd (omega arith)
some_here marks k zero (x ∷ xs) h is = first_marked marks k x xs is
some_here marks k (suc i) (x ∷ xs) h is = some_here marks k i xs (omega arith) is

next : {A : Type 0} (marks : List ℕ) (k i : ℕ) (xs : List A) → i < length xs → is_marked_number marks k ≡ false
    → some_marked marks k (drop i xs) ≡ some_marked marks (suc k) (drop (suc i) xs)
next marks k i [] h is = absurd (omega arith)
next marks k zero (x ∷ xs) h is = first_unmarked marks k x xs is
next marks k (suc i) (x ∷ xs) h is = next marks k i xs (omega arith) is

pub not_here : {A : Type 0} (marks : List ℕ) (i : ℕ) (xs : List A) → i < length xs → is_marked_number marks i ≡ false
    → some_marked marks i (drop i xs) ≡ some_marked marks (i + 1) (drop (i + 1) xs)
not_here marks i xs h is = let one : i + 1 ≡ suc i = omega arith in rw one (next marks i i xs h is)

-- ---- By the list that the code has.

pub marked_by : {A B : Type 0} (f : A → B) (marks : List ℕ) (xs : List A) (ys : List B) (answer : Bool) → map f xs ≡ ys
    → answer ≡ some_marked marks 0 xs → some_marked marks 0 ys ≡ answer
marked_by {A = A} {B = B} f marks xs ys answer same is =
    ap (λ (zs : List B). some_marked marks 0 zs) (sym same) ∙ marked_images f marks 0 xs ∙ sym is

pub either_first : (a b answer : Bool) → a ≡ answer → answer ≡ true → answer ≡ (a || b)
either_first a b answer is holds = holds ∙ sym (ap (λ (c : Bool). c || b) (is ∙ holds))

pub either_second : (a b answer other : Bool) → a ≡ answer → answer ≡ false → b ≡ other → other ≡ (a || b)
either_second a b answer other is fails there = sym (ap (λ (c : Bool). c || b) (is ∙ fails) ∙ there)
