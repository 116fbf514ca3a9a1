-- Lists of numbers without repetition have no more members than a list that has all of them.
use Rattle.std.proofs.Common.{◌≡◌, ◌≤◌, ◌<◌, ℕ, zero, suc, List, [], ◌∷◌, ◌++◌, length, Bool, true, false, nat_eq, refl, ap, sym, ◌∙◌, subst, inl, inr, arith}
use Rattle.std.specs.Prelude.{if◌then◌else◌, Some}
use Rattle.std.proofs.lemmas.Option.{same_Some}
use Rattle.std.proofs.lemmas.Bool.Decides.{Decides-eqb}
use Rattle.lotos_base.specs.Term.{Term, variable, node, Terms, no_terms, term_then}
use Rattle.lotos_base.specs.Sorting.{Occurs, OccursAmong}
use Rattle.rewriting_theory.specs.Numbering.{variable_numbers, all_variable_numbers}
use Rattle.rewriting_theory.proofs.PlaceListLemmas.{IsIn, in_left, in_right}
use Rattle.term_match.specs.Numbers.{AreDistinctNumbers}
use Rattle.term_match.proofs.DistinctLemmas.{IsAbsent}

-- the list without a number
abbrev left_out : ℕ → List ℕ → List ℕ
left_out n [] = []
left_out n (m ∷ ms) = if nat_eq m n then left_out n ms else m ∷ left_out n ms

left_out_no_longer : (n : ℕ) (ms : List ℕ) → length (left_out n ms) ≤ length ms
left_out_no_longer n [] = omega arith
left_out_no_longer n (m ∷ ms) = go (nat_eq m n) (left_out_no_longer n ms)
  where
    go : (b : Bool) → length (left_out n ms) ≤ length ms → length (if b then left_out n ms else m ∷ left_out n ms) ≤ suc (length ms)
    go true rest = omega (arith, rest)
    go false rest = omega (arith, rest)

left_out_shorter : (n : ℕ) (ms : List ℕ) → IsIn n ms → length (left_out n ms) < length ms
left_out_shorter n [] is = absurd is
left_out_shorter n (m ∷ ms) is = go (nat_eq m n) refl is (left_out_no_longer n ms) (left_out_shorter n ms)
  where
    go : (b : Bool) → nat_eq m n ≡ b → IsIn n (m ∷ ms) → length (left_out n ms) ≤ length ms
        → (IsIn n ms → length (left_out n ms) < length ms) → length (if b then left_out n ms else m ∷ left_out n ms) < suc (length ms)
    go true e at no_longer later = omega (arith, no_longer)
    go false e (inl at) no_longer later = let same : nat_eq m n ≡ true = (Decides-eqb m n).1 at in cc
    go false e (inr at) no_longer later = let less = later at in omega (arith, less)

left_out_keeps : (n k : ℕ) (ms : List ℕ) → IsIn k ms → (k ≡ n → ⊥) → IsIn k (left_out n ms)
left_out_keeps n k [] is differ = absurd is
left_out_keeps n k (m ∷ ms) is differ = go (nat_eq m n) refl is (λ later. left_out_keeps n k ms later differ)
  where
    go : (b : Bool) → nat_eq m n ≡ b → IsIn k (m ∷ ms) → (IsIn k ms → IsIn k (left_out n ms))
        → IsIn k (if b then left_out n ms else m ∷ left_out n ms)
    go true e (inl at) later = absurd (differ (sym at ∙ (Decides-eqb m n).0 e))
    go true e (inr at) later = later at
    go false e (inl at) later = inl at
    go false e (inr at) later = inr (later at)

pub distinct_rest : (m : ℕ) (numbers : List ℕ) → AreDistinctNumbers (m ∷ numbers) → AreDistinctNumbers numbers
distinct_rest m numbers distinct i j n e d =
    let same : suc i ≡ suc j = distinct (suc i) (suc j) n e d in
    omega (arith, same)

pub first_absent : (m : ℕ) (numbers : List ℕ) → AreDistinctNumbers (m ∷ numbers) → IsAbsent m numbers
first_absent m numbers distinct i e =
    let same : zero ≡ suc i = distinct zero (suc i) m refl e in
    omega (arith, same)

pub absent_more : (k n : ℕ) (numbers : List ℕ) → IsAbsent k numbers → (k ≡ n → ⊥) → IsAbsent k (numbers ++ n ∷ [])
absent_more k n [] absent differ zero e = differ (sym (same_Some _ _ e))
absent_more k n [] absent differ (suc i) e = cc
absent_more k n (m ∷ numbers) absent differ zero e = absent zero e
absent_more k n (m ∷ numbers) absent differ (suc i) e = absent_more k n numbers (λ j. absent (suc j)) differ i e

in_not_absent : (k : ℕ) (ms : List ℕ) → IsIn k ms → IsAbsent k ms → ⊥
in_not_absent k [] is absent = is
in_not_absent k (m ∷ ms) (inl at) absent = absent zero (ap (λ (j : ℕ). Some j) at)
in_not_absent k (m ∷ ms) (inr at) absent = in_not_absent k ms at (λ i. absent (suc i))

pub distinct_fits : (ns zs : List ℕ) → AreDistinctNumbers ns → ((n : ℕ) → IsIn n ns → IsIn n zs) → length ns ≤ length zs
distinct_fits [] zs distinct inside = omega arith
distinct_fits (n ∷ ns) zs distinct inside =
    let absent = first_absent n ns distinct in
    let rest = distinct_fits ns (left_out n zs) (distinct_rest n ns distinct)
    (λ m is. left_out_keeps n m zs (inside m (inr is)) (λ same. in_not_absent n ns (subst (λ (k : ℕ). IsIn k ns) same is) absent)) in
    let short = left_out_shorter n zs (inside n (inl refl)) in
    omega (arith, rest, short)

-- the number of a variable that occurs is in the list
mutual
  pub occurs_numbered : (n s : ℕ) (t : Term) → Occurs n s t → IsIn n (variable_numbers t)
  occurs_numbered n s (variable m r) o = inl o.0
  occurs_numbered n s (node f ts) o = occurs_all_numbered n s ts o

  occurs_all_numbered : (n s : ℕ) (ts : Terms) → OccursAmong n s ts → IsIn n (all_variable_numbers ts)
  occurs_all_numbered n s no_terms o = absurd o
  occurs_all_numbered n s (term_then t ts) (inl o) =
      in_left n (variable_numbers t) (all_variable_numbers ts) (occurs_numbered n s t o)
  occurs_all_numbered n s (term_then t ts) (inr o) =
      in_right n (variable_numbers t) (all_variable_numbers ts) (occurs_all_numbered n s ts o)
