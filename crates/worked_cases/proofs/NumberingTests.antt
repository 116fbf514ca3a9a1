-- Tests of numberings: all variables of a term, a renaming that keeps them apart, numbers by first appearance.
use Rattle.std.proofs.Common.{◌≡◌, ◌<◌, ℕ, zero, suc, List, [], ◌∷◌, Bool, true, false, nat_eq, refl, sym, ◌∙◌, inl, inr, arith}
use Rattle.std.specs.Prelude.{Some, None, ◌&&◌, if◌then◌else◌, slice_get, nat_lt}
use Rattle.std.proofs.lemmas.Option.{same_Some}
use Rattle.std.proofs.lemmas.Bool.Decides.{Decides-eqb, Decides-and}
use Rattle.std.proofs.lemmas.Bool.{ltb-true, and_parts}
use Rattle.lotos_base.specs.Term.{Term, variable, node, Terms, no_terms, term_then}
use Rattle.lotos_base.specs.Sorting.{Occurs, OccursAmong}
use Rattle.lotos_base.specs.Canon.{KeepsApart}
use Rattle.rewriting_theory.specs.Numbering.{variable_numbers, IsByAppearance, IsNumbered}
use Rattle.rewriting_theory.proofs.NumberLemmas.{later_new, later, StandsBefore}

abbrev mutual
  -- whether each variable of the term passes
  pub each_variable : (ℕ → ℕ → Bool) → Term → Bool
  each_variable test (variable n s) = test n s
  each_variable test (node f ts) = each_variable_among test ts

  pub each_variable_among : (ℕ → ℕ → Bool) → Terms → Bool
  each_variable_among test no_terms = true
  each_variable_among test (term_then t ts) = each_variable test t && each_variable_among test ts

mutual
  pub variable_passes : (test : ℕ → ℕ → Bool) (t : Term) → each_variable test t ≡ true → (n s : ℕ) → Occurs n s t → test n s ≡ true
  variable_passes test (variable m r) e n s o = (λ i. test (sym (o.0) i) (sym (o.1) i)) ∙ e
  variable_passes test (node f ts) e n s o = variable_passes_among test ts e n s o

  variable_passes_among : (test : ℕ → ℕ → Bool) (ts : Terms) → each_variable_among test ts ≡ true → (n s : ℕ) → OccursAmong n s ts
      → test n s ≡ true
  variable_passes_among test no_terms e n s o = absurd o
  variable_passes_among test (term_then t ts) e n s (inl o) =
      variable_passes test t (and_parts (each_variable test t) (each_variable_among test ts) e).0 n s o
  variable_passes_among test (term_then t ts) e n s (inr o) =
      variable_passes_among test ts (and_parts (each_variable test t) (each_variable_among test ts) e).1 n s o

-- ---- Renamings that keep apart

abbrev apart_test : (ℕ → ℕ → ℕ) → ℕ → ℕ → ℕ → ℕ → Bool
apart_test number n s m r = if nat_eq s r && nat_eq (number n s) (number m r) then nat_eq n m else true

abbrev pub keeps_apart : (ℕ → ℕ → ℕ) → Term → Bool
keeps_apart number t = each_variable (λ n s. each_variable (λ m r. apart_test number n s m r) t) t

apart_passes : (number : ℕ → ℕ → ℕ) (n m s : ℕ) → apart_test number n s m s ≡ true → number n s ≡ number m s → n ≡ m
apart_passes number n m s e same =
    go (nat_eq s s && nat_eq (number n s) (number m s))
    ((Decides-and (nat_eq s s) (nat_eq (number n s) (number m s)) (Decides-eqb s s) (Decides-eqb (number n s) (number m s))).1
    (refl, same)) e
  where
    go : (b : Bool) → b ≡ true → (if b then nat_eq n m else true) ≡ true → n ≡ m
    go true is h = (Decides-eqb n m).0 h
    go false is h = cc

pub keeps_apart_so : (number : ℕ → ℕ → ℕ) (t : Term) → keeps_apart number t ≡ true → KeepsApart number t
keeps_apart_so number t e = λ n m s o p same.
    apart_passes number n m s
    (variable_passes (λ k r. apart_test number n s k r) t
    (variable_passes (λ i q. each_variable (λ k r. apart_test number i q k r) t) t e n s o) m s p) same

-- ---- Numbers by first appearance

-- whether each number is smaller than the next new one, or is it
abbrev pub goes_on : ℕ → List ℕ → Bool
goes_on next [] = true
goes_on next (n ∷ ns) = if nat_lt n next then goes_on next ns else (nat_eq n next && goes_on (suc next) ns)

goes_on_so : (ns : List ℕ) (next : ℕ) → goes_on next ns ≡ true → (i n m : ℕ) → slice_get ns i ≡ Some n → m < n → StandsBefore next ns i m
goes_on_so [] next e i n m is less = let none : None ≡ Some n = is in cc
goes_on_so (k ∷ ns) next e i n m is less = go (nat_lt k next) refl e i is (goes_on_so ns next) (goes_on_so ns (suc next))
  where
    go : (b : Bool) → nat_lt k next ≡ b → (if b then goes_on next ns else (nat_eq k next && goes_on (suc next) ns)) ≡ true
        → (i : ℕ) → slice_get (k ∷ ns) i ≡ Some n
        → (goes_on next ns ≡ true → (i n m : ℕ) → slice_get ns i ≡ Some n → m < n → StandsBefore next ns i m)
        → (goes_on (suc next) ns ≡ true → (i n m : ℕ) → slice_get ns i ≡ Some n → m < n → StandsBefore (suc next) ns i m)
        → StandsBefore next (k ∷ ns) i m
    go true small h zero is old new =
        let same : k ≡ n = same_Some k n is in
        let under : k < next = ltb-true k next small in
        inl (omega (arith, same, under, less))
    go true small h (suc i) is old new = later next k i m ns (old h i n m is less)
    go false large h zero is old new =
        let same : k ≡ n = same_Some k n is in
        let next_one : k ≡ next = (Decides-eqb k next).0 (and_parts (nat_eq k next) (goes_on (suc next) ns) h).0 in
        inl (omega (arith, same, next_one, less))
    go false large h (suc i) is old new =
        let parts = and_parts (nat_eq k next) (goes_on (suc next) ns) h in
        later_new next k i m ns ((Decides-eqb k next).0 parts.0) (new parts.1 i n m is less)

by_appearance_so : (ns : List ℕ) → goes_on 0 ns ≡ true → IsByAppearance ns
by_appearance_so ns e = λ i n m is less. go i m (goes_on_so ns 0 e i n m is less)
  where
    go : (i m : ℕ) → StandsBefore 0 ns i m → (j : ℕ) × (j < i) × (slice_get ns j ≡ Some m)
    go i m (inl less) = absurd (omega (arith, less))
    go i m (inr before) = before

-- whether different variables of the term have different numbers, and these come by first appearance
abbrev sort_test : ℕ → ℕ → ℕ → ℕ → Bool
sort_test n r m s = if nat_eq n m then nat_eq r s else true

abbrev pub is_numbered : Term → Bool
is_numbered t = goes_on 0 (variable_numbers t) && each_variable (λ n r. each_variable (λ m s. sort_test n r m s) t) t

pub is_numbered_so : (t : Term) → is_numbered t ≡ true → IsNumbered t
is_numbered_so t e =
    let parts = and_parts (goes_on 0 (variable_numbers t)) (each_variable (λ n r. each_variable (λ m s. sort_test n r m s) t) t) e in
    record {
      by_appearance = by_appearance_so (variable_numbers t) parts.0;
      one_sort = λ n r s o p.
          one n r s
          (variable_passes (λ m q. sort_test n r m q) t
          (variable_passes (λ i j. each_variable (λ m q. sort_test i j m q) t) t parts.1 n r o) n s p);
    }
  where
    one : (n r s : ℕ) → sort_test n r n s ≡ true → r ≡ s
    one n r s h = go (nat_eq n n) ((Decides-eqb n n).1 refl) h
      where
        go : (b : Bool) → b ≡ true → (if b then nat_eq r s else true) ≡ true → r ≡ s
        go true is k = (Decides-eqb r s).0 k
        go false is k = cc
