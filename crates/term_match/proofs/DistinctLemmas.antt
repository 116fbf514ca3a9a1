-- Lists of numbers without repetition, one more at the end.
use Rattle.std.proofs.Common.{◌≡◌, ℕ, zero, suc, List, [], ◌∷◌, ◌++◌, refl, ap, sym, subst, arith}
use Rattle.std.specs.Prelude.{Some, slice_get}
use Rattle.std.proofs.lemmas.Option.{same_Some}
use Rattle.term_match.specs.Numbers.{AreDistinctNumbers}

-- the number is not in the list
abbrev pub IsAbsent : ℕ → List ℕ → Type 0
IsAbsent n numbers = (i : ℕ) → slice_get numbers i ≡ Some n → ⊥

absent_more : (k n : ℕ) (numbers : List ℕ) → IsAbsent k numbers → (k ≡ n → ⊥) → IsAbsent k (numbers ++ n ∷ [])
absent_more k n [] absent differ zero e = differ (sym (same_Some _ _ e))
absent_more k n [] absent differ (suc i) e = cc
absent_more k n (m ∷ numbers) absent differ zero e = absent zero e
absent_more k n (m ∷ numbers) absent differ (suc i) e = absent_more k n numbers (λ j. absent (suc j)) differ i e

distinct_first : (m : ℕ) (numbers : List ℕ) → IsAbsent m numbers → AreDistinctNumbers numbers → AreDistinctNumbers (m ∷ numbers)
distinct_first m numbers absent distinct zero zero n e d = refl
distinct_first m numbers absent distinct zero (suc j) n e d =
    absurd (absent j (subst (λ (k : ℕ). slice_get numbers j ≡ Some k) (sym (same_Some _ _ e)) d))
distinct_first m numbers absent distinct (suc i) zero n e d =
    absurd (absent i (subst (λ (k : ℕ). slice_get numbers i ≡ Some k) (sym (same_Some _ _ d)) e))
distinct_first m numbers absent distinct (suc i) (suc j) n e d = ap (λ (k : ℕ). suc k) (distinct i j n e d)

distinct_rest : (m : ℕ) (numbers : List ℕ) → AreDistinctNumbers (m ∷ numbers) → AreDistinctNumbers numbers
distinct_rest m numbers distinct i j n e d =
    let same : suc i ≡ suc j = distinct (suc i) (suc j) n e d in
    omega (arith, same)

first_absent : (m : ℕ) (numbers : List ℕ) → AreDistinctNumbers (m ∷ numbers) → IsAbsent m numbers
first_absent m numbers distinct i e =
    let same : zero ≡ suc i = distinct zero (suc i) m refl e in
    omega (arith, same)

pub distinct_more : (n : ℕ) (numbers : List ℕ) → AreDistinctNumbers numbers → IsAbsent n numbers → AreDistinctNumbers (numbers ++ n ∷ [])
distinct_more n [] distinct absent = distinct_first n [] (λ i e. cc) (λ i j m e d. cc)
distinct_more n (m ∷ numbers) distinct absent =
    distinct_first m (numbers ++ n ∷ [])
    (absent_more m n numbers (first_absent m numbers distinct) (λ same. absent zero (ap (λ (k : ℕ). Some k) same)))
    (distinct_more n numbers (distinct_rest m numbers distinct) (λ j. absent (suc j)))
