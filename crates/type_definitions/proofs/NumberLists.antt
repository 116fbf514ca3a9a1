-- Numbers among the numbers of a list.
use Rattle.std.proofs.Common.{◌≡◌, ℕ, zero, suc, ◌<◌, ◌≤◌, Bool, true, false, List, [], ◌∷◌, ◌++◌, ◌⊎◌, length, get_or, take, drop, inl, inr, refl, ap, sym, ◌∙◌, subst, arith}
use Rattle.std.specs.Prelude.{Some, slice_get, nat_eq}
use Rattle.std.proofs.Math.Seq.{take-append_seam}
use Rattle.std.proofs.lemmas.Bool.{cases_lt, eq-eqb, eqb-true, or_cases, or_left, or_right}
use Rattle.std.proofs.lemmas.List.{get_or_past}
use Rattle.std.proofs.lemmas.List.Folds.{list_any-append}
use Rattle.std.proofs.lemmas.Option.{none-some, same_Some, slice_get_within}
use Rattle.type_definitions.specs.TypeGraph.{is_among, mentioned_by, Mentions}

pub not_true : (b : Bool) → ¬ (b ≡ true) → b ≡ false
not_true true never = absurd (never refl)
not_true false never = refl

pub same_or_not : (i j : ℕ) → (i ≡ j) ⊎ (¬ (i ≡ j))
same_or_not i j =
    elim (cases_lt i j) [
      | inl below ↦ inr (λ e. absurd (omega arith))
      | inr above ↦ elim (cases_lt j i) [ inl over ↦ inr (λ e. absurd (omega arith)) | inr as_much ↦ inl (omega arith) ]
    ]

pub among_none : {A : Type 0} (i : ℕ) → is_among [] i ≡ true → A
among_none i h = let e : false ≡ true = h in cc

pub among_left : (xs ys : List ℕ) (i : ℕ) → is_among xs i ≡ true → is_among (xs ++ ys) i ≡ true
among_left xs ys i h = list_any-append (nat_eq i) xs ys ∙ or_left _ _ h

pub among_right : (xs ys : List ℕ) (i : ℕ) → is_among ys i ≡ true → is_among (xs ++ ys) i ≡ true
among_right xs ys i h = list_any-append (nat_eq i) xs ys ∙ or_right (is_among xs i) (is_among ys i) h

pub among_cases : (xs ys : List ℕ) (i : ℕ) → is_among (xs ++ ys) i ≡ true → (is_among xs i ≡ true) ⊎ (is_among ys i ≡ true)
among_cases xs ys i h = or_cases (is_among xs i) (is_among ys i) (sym (list_any-append (nat_eq i) xs ys) ∙ h)

pub among_one : (j i : ℕ) → is_among (j ∷ []) i ≡ true → i ≡ j
among_one j i h = elim (or_cases (nat_eq i j) false h) [ inl same ↦ eqb-true i j same | inr none ↦ cc ]

pub one_among : (j i : ℕ) → i ≡ j → is_among (j ∷ []) i ≡ true
one_among j i e = or_left (nat_eq i j) false (eq-eqb i j e)

pub among_at : (xs : List ℕ) (k j : ℕ) → slice_get xs k ≡ Some j → is_among xs j ≡ true
among_at [] k j found = absurd (none-some j found)
among_at (x ∷ xs) zero j found = or_left (nat_eq j x) (is_among xs j) (eq-eqb j x (sym (same_Some _ _ found)))
among_at (x ∷ xs) (suc k) j found = or_right (nat_eq j x) (is_among xs j) (among_at xs k j found)

pub at_among : (xs : List ℕ) (j : ℕ) → is_among xs j ≡ true → (k : ℕ) × (slice_get xs k ≡ Some j)
at_among [] j h = among_none j h
at_among (x ∷ xs) j h =
    elim (or_cases (nat_eq j x) (is_among xs j) h) [
      | inl same ↦ (0, ap (λ (y : ℕ). Some y) (sym (eqb-true j x same)))
      | inr further ↦ let at = at_among xs j further in (suc at.0, at.1)
    ]

pub among_drop : (k : ℕ) (xs : List ℕ) (j : ℕ) → is_among (drop k xs) j ≡ true → is_among xs j ≡ true
among_drop zero xs j h = h
among_drop (suc k) [] j h = h
among_drop (suc k) (x ∷ xs) j h = or_right (nat_eq j x) (is_among xs j) (among_drop k xs j h)

-- what is written back behind a slice of a whole list
pub written_back : {A : Type 0} (n : ℕ) (new old : List A) → n ≡ length old → length new ≡ length old
    → take n (new ++ drop (length new) old) ≡ new
written_back n new old at as_many =
    ap (λ (k : ℕ). take k (new ++ drop (length new) old)) (at ∙ sym as_many) ∙ take-append_seam new (drop (length new) old)

-- a type that mentions another one is one of the graph
pub mentioner_within : (graph : List (List ℕ)) (i j : ℕ) → Mentions graph i j → i < length graph
mentioner_within graph i j h =
    elim (cases_lt i (length graph)) [
      | inl within ↦ within
      | inr past ↦
          let none : mentioned_by graph i ≡ [] = get_or_past graph i [] past in
          among_none j (subst (λ (xs : List ℕ). is_among xs j ≡ true) none h)
    ]
