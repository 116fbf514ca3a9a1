-- Lists of terms of which one has more members.
use Rattle.std.proofs.Common.{◌≡◌, ◌≤◌, ◌<◌, ℕ, zero, suc, List, [], ◌∷◌, length, drop, true, refl, ap, arith}
use Rattle.std.proofs.lemmas.Bool.{or_right}
use Rattle.sort_terms.specs.TermView.{all_profiled, profiled_of}
use Rattle.sort_terms.specs.declared.terms.Term.{Term}
use Rattle.term_match.specs.Disagreement.{terms_clash, clashes, clashing, disagreement_of_lists}

pub more_on_the_left : (xs ys : List Term) (i : ℕ) → i < length xs → length ys ≤ i → i ≤ length ys
    → disagreement_of_lists (all_profiled (drop i xs)) (all_profiled (drop i ys)) ≡ clashing
more_on_the_left [] ys i h k m = absurd (omega (arith, h))
more_on_the_left (x ∷ xs) [] zero h k m = refl
more_on_the_left (x ∷ xs) [] (suc i) h k m = absurd (omega (arith, m))
more_on_the_left (x ∷ xs) (y ∷ ys) zero h k m = absurd (omega (arith, k))
more_on_the_left (x ∷ xs) (y ∷ ys) (suc i) h k m = more_on_the_left xs ys i (omega (arith, h)) (omega (arith, k)) (omega (arith, m))

pub more_on_the_right : (xs ys : List Term) (i : ℕ) → length xs ≤ i → i ≤ length xs → i < length ys
    → disagreement_of_lists (all_profiled (drop i xs)) (all_profiled (drop i ys)) ≡ clashing
more_on_the_right xs [] i h m k = absurd (omega (arith, k))
more_on_the_right [] (y ∷ ys) zero h m k = refl
more_on_the_right [] (y ∷ ys) (suc i) h m k = absurd (omega (arith, m))
more_on_the_right (x ∷ xs) (y ∷ ys) zero h m k = absurd (omega (arith, h))
more_on_the_right (x ∷ xs) (y ∷ ys) (suc i) h m k = more_on_the_right xs ys i (omega (arith, h)) (omega (arith, m)) (omega (arith, k))

-- lists of different lengths clash
pub lists_clash : (xs ys : List Term) → (length xs ≡ length ys → ⊥) → terms_clash (all_profiled xs) (all_profiled ys) ≡ true
lists_clash [] [] differ = absurd (differ refl)
lists_clash [] (y ∷ ys) differ = refl
lists_clash (x ∷ xs) [] differ = refl
lists_clash (x ∷ xs) (y ∷ ys) differ =
    or_right (clashes (profiled_of x) (profiled_of y)) (terms_clash (all_profiled xs) (all_profiled ys))
    (lists_clash xs ys (λ same. differ (ap (λ (k : ℕ). suc k) same)))
