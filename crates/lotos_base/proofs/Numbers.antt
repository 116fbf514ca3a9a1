-- Natural numbers and their order.
use Rattle.std.proofs.Common.{◌≡◌, ℕ, zero, suc, ◌+◌, ◌<◌, ◌≤◌, ap, inl, inr, refl, arith}
use Rattle.std.specs.Prelude.{◌⊎◌}
use Rattle.std.proofs.lemmas.Bool.{cases_order}

-- a number within a limit is below all that is above the limit
pub below_limit : (n m limit top : ℕ) → n ≡ m → m ≤ limit → limit < top → n < top
below_limit n m limit top same within small = omega (arith, same, within, small)

-- what is at most a number and differs from it is below it
pub smaller : (n m next : ℕ) → n ≡ next → m < suc next → (n ≡ m → ⊥) → m < next
smaller n m next same less differ = grind (arith, same, less, differ)

-- below the next number: below this one, or this one
pub split_last : (k i : ℕ) → k < i + 1 → (k < i) ⊎ (k ≡ i)
split_last zero zero h = inr refl
split_last zero (suc i) h = inl (omega arith)
split_last (suc k) zero h = absurd (omega (arith, h))
split_last (suc k) (suc i) h = go (split_last k i (omega (arith, h)))
  where
    go : (k < i) ⊎ (k ≡ i) → (suc k < suc i) ⊎ (suc k ≡ suc i)
    go (inl less) = inl (omega (arith, less))
    go (inr same) = inr (ap (λ (n : ℕ). suc n) same)

pub suc-injective : (i j : ℕ) → suc i ≡ suc j → i ≡ j
suc-injective i j e = omega (arith, e)

-- one of two numbers is less, or they are one
pub compared : (m n : ℕ) → (m < n) ⊎ ((m ≡ n) ⊎ (n < m))
compared m n = by (cases_order m n)
  where
    by : (m ≡ n) ⊎ ((m < n) ⊎ (n < m)) → (m < n) ⊎ ((m ≡ n) ⊎ (n < m))
    by (inl same) = inr (inl same)
    by (inr (inl less)) = inl less
    by (inr (inr more)) = inr (inr more)
