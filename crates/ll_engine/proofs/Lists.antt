-- Lists of bits, and tests of the elements of a list.
use Rattle.std.proofs.Common.{◌≡◌, ℕ, zero, suc, ◌+◌, ◌<◌, ◌≤◌, Bool, true, false, cond, ◌||◌, List, [], ◌∷◌, length, get_or, refl, ap, ◌∙◌, arith, count_by}
use Rattle.std.proofs.Common.{inl, inr}
use Rattle.std.proofs.lemmas.Bool.{false≢true, or_cases, or_left, or_right, cases_lt}
use Rattle.std.proofs.lemmas.List.Sums.{count_by-le-length}
use Rattle.std.proofs.lemmas.List.Recursion.{is_count_by}
use Rattle.std.proofs.Common.{add-one}
use Rattle.ll_engine.specs.Computed.{any_below}

-- each bit that is set in the first list is set in the second
abbrev pub IsWithin : List Bool → List Bool → Type 0
IsWithin xs ys = (i : ℕ) → get_or xs i false ≡ true → get_or ys i false ≡ true

-- how many bits are set
abbrev pub set_count : List Bool → ℕ
set_count [] = 0
set_count (x ∷ xs) = cond x (1 + set_count xs) (set_count xs)

pub set_count-count_by : (xs : List Bool) → set_count xs ≡ count_by (λ (x : Bool). x) xs
set_count-count_by = is_count_by set_count (λ (x : Bool). x) refl (λ _ _. refl)

head_case : (x y : Bool) (m n : ℕ) → (x ≡ true → y ≡ true) → m ≤ n → cond x (1 + m) m ≤ cond y (1 + n) n
head_case false false m n h le = le
head_case false true m n h le = omega arith
head_case true true m n h le = omega arith
head_case true false m n h le = absurd (false≢true (h refl))

pub set_count-le : (xs ys : List Bool) → length xs ≡ length ys → IsWithin xs ys → set_count xs ≤ set_count ys
set_count-le [] [] same within = omega arith
set_count-le [] (y ∷ ys) same within = omega arith
set_count-le (x ∷ xs) [] same within = absurd (omega arith)
set_count-le (x ∷ xs) (y ∷ ys) same within =
    head_case x y _ _ (within 0) (set_count-le xs ys (omega arith) (λ i. within (suc i)))

same_head : (x y : Bool) (m n : ℕ) → (x ≡ true → y ≡ true) → m ≤ n → cond x (1 + m) m ≡ cond y (1 + n) n → (x ≡ y) × (m ≡ n)
same_head false false m n h le e = (refl, e)
same_head false true m n h le e = absurd (omega arith)
same_head true true m n h le e = (refl, omega arith)
same_head true false m n h le e = absurd (false≢true (h refl))

-- with as many bits set, both are one
pub same_from_set_count : (xs ys : List Bool) → length xs ≡ length ys → IsWithin xs ys → set_count xs ≡ set_count ys → xs ≡ ys
same_from_set_count [] [] same within e = refl
same_from_set_count [] (y ∷ ys) same within e = absurd (omega arith)
same_from_set_count (x ∷ xs) [] same within e = absurd (omega arith)
same_from_set_count (x ∷ xs) (y ∷ ys) same within e =
    let h = same_head x y (set_count xs) (set_count ys) (within 0) (set_count-le xs ys (omega arith) (λ i. within (suc i))) e in
    let tail : xs ≡ ys = same_from_set_count xs ys (omega arith) (λ i. within (suc i)) h.1 in
    cc

pub set_count-le-length : (xs : List Bool) → set_count xs ≤ length xs
set_count-le-length xs = rw set_count-count_by (count_by-le-length (λ (x : Bool). x) xs)

-- a test of the numbers below another
pub any_below-more : (test : ℕ → Bool) (n : ℕ) → any_below test (n + 1) ≡ (any_below test n || test n)
any_below-more test n = rw add-one refl

pub any_below-from_at : (test : ℕ → Bool) (n k : ℕ) → k < n → test k ≡ true → any_below test n ≡ true
any_below-from_at test zero k lt h = absurd (omega arith)
any_below-from_at test (suc n) k lt h =
    elim (cases_lt k n) [
      | inl below ↦ or_left (any_below test n) (test n) (any_below-from_at test n k below h)
      | inr ge ↦ let e : n ≡ k = omega arith in or_right (any_below test n) (test n) (ap test e ∙ h)
    ]

pub any_below-at : (test : ℕ → Bool) (n : ℕ) → any_below test n ≡ true → (k : ℕ) × (k < n) × (test k ≡ true)
any_below-at test zero h = absurd (false≢true h)
any_below-at test (suc n) h =
    elim (or_cases (any_below test n) (test n) h) [
      | inl below ↦ let at = any_below-at test n below in (at.0, (omega (arith, at.1)), at.2)
      | inr here ↦ (n, omega arith, here)
    ]
