-- Lists that keep first appearances, and unions.
use Rattle.std.proofs.Common.{◌≡◌, ℕ, zero, suc, ◌<◌, Bool, true, false, List, [], ◌∷◌, ◌++◌, ◌⊎◌, inl, inr, refl, ap, sym, ◌∙◌, subst, length, arith}
use Rattle.std.specs.Prelude.{Option, Some, None, slice_get, ◌||◌, nat_eq, if◌then◌else◌}
use Rattle.std.specs.List.{list_any}
use Rattle.std.specs.Str.{bytes_eq}
use Rattle.std.proofs.lemmas.Bool.{eq-eqb, and_from, or_left, or_right}
use Rattle.std.proofs.lemmas.List.Folds.{list_any-append}
use Rattle.std.proofs.lemmas.Option.{none-some, same_Some}
use Rattle.std.proofs.lemmas.Slice.Eq.{bytes_eq-Decides}
use Rattle.lotos_base.proofs.Members.{at_front}
use Rattle.lotos_base.specs.Names.{folded}
use Rattle.lotos_base.specs.Signature.{Sort, Operation}
use Rattle.lotos_base.specs.Equation.{Equation}
use Rattle.lotos_base.proofs.TestLemmas.{Decides-term_eq}
use Rattle.sort_terms.proofs.NodeLemmas.{eq_forms}
use Rattle.type_definitions.specs.Presentation.{Presentation, is_same_sort, is_same_operation, is_same_equation, with_new, first_position}
use Rattle.type_definitions.specs.Union.{joined_presentation, joined_sort, joined_sorts, joined_operation, joined_operations, coming_operations, sort_place_in, operation_place_in}
use Rattle.type_definitions.specs.UnionLaws.{IsIn, KeepsFirstAppearances, FirstAppearancesAreKept, UnionsKeepAndAdd}

-- ---- Lists.

front_or_last : {A : Type 0} (xs : List A) (y : A) (i : ℕ) (x : A) → slice_get (xs ++ y ∷ []) i ≡ Some x → IsIn xs x ⊎ (x ≡ y)
front_or_last [] y zero x found = inr (sym (same_Some _ _ found))
front_or_last [] y (suc i) x found = absurd (none-some x found)
front_or_last (z ∷ xs) y zero x found = inl (0, found)
front_or_last (z ∷ xs) y (suc i) x found =
    elim (front_or_last xs y i x found) [ inl there ↦ inl (suc there.0, there.1) | inr last ↦ inr last ]

-- the member that the first position has
pub position_found : {A : Type 0} (test : A → Bool) (xs : List A) → list_any test xs ≡ true
    → (y : A) × (slice_get xs (first_position test xs) ≡ Some y) × (test y ≡ true)
position_found test [] h = let e : false ≡ true = h in cc
position_found {A = A} test (x ∷ xs) h = go (test x) refl (position_found test xs)
  where
    go : (b : Bool) → test x ≡ b
        → (list_any test xs ≡ true → (y : A) × (slice_get xs (first_position test xs) ≡ Some y) × (test y ≡ true))
        → (y : A) × (slice_get (x ∷ xs) (first_position test (x ∷ xs)) ≡ Some y) × (test y ≡ true)
    go true is rest = let first : slice_get (x ∷ xs) (first_position test (x ∷ xs)) ≡ Some x = rw is refl in (x, first, is)
    go false is rest =
        let later : list_any test xs ≡ true = rw is at h in
        let found = rest later in
        let there : slice_get (x ∷ xs) (first_position test (x ∷ xs)) ≡ Some found.0 = rw is found.1 in
        (found.0, there, found.2)

-- ---- Lists that keep first appearances.

stays : {A : Type 0} (same : A → A → Bool) (kept xs : List A) (i : ℕ) (x : A) → slice_get kept i ≡ Some x
    → slice_get (with_new same kept xs) i ≡ Some x
stays same kept [] i x found = found
stays {A = A} same kept (z ∷ xs) i x found =
    go (list_any (same z) kept) (λ (more : List A) (f : slice_get more i ≡ Some x). stays same more xs i x f)
  where
    go : (b : Bool) → ((more : List A) → slice_get more i ≡ Some x → slice_get (with_new same more xs) i ≡ Some x)
        → slice_get (with_new same (if b then kept else kept ++ z ∷ []) xs) i ≡ Some x
    go true rest = rest kept found
    go false rest = rest (kept ++ z ∷ []) (at_front kept (z ∷ []) i x found)

any_stays : {A : Type 0} (same : A → A → Bool) (test : A → Bool) (kept xs : List A) → list_any test kept ≡ true
    → list_any test (with_new same kept xs) ≡ true
any_stays same test kept [] h = h
any_stays {A = A} same test kept (z ∷ xs) h =
    go (list_any (same z) kept) (λ (more : List A) (f : list_any test more ≡ true). any_stays same test more xs f)
  where
    go : (b : Bool) → ((more : List A) → list_any test more ≡ true → list_any test (with_new same more xs) ≡ true)
        → list_any test (with_new same (if b then kept else kept ++ z ∷ []) xs) ≡ true
    go true rest = rest kept h
    go false rest = rest (kept ++ z ∷ []) (list_any-append test kept (z ∷ []) ∙ or_left (list_any test kept) (list_any test (z ∷ [])) h)

comes_in : {A : Type 0} (same : A → A → Bool) → ((x : A) → same x x ≡ true) → (kept xs : List A) (i : ℕ) (x : A)
    → slice_get xs i ≡ Some x → list_any (same x) (with_new same kept xs) ≡ true
comes_in same itself kept [] i x found = absurd (none-some x found)
comes_in {A = A} same itself kept (z ∷ xs) zero x found =
    subst (λ (y : A). list_any (same y) (with_new same kept (z ∷ xs)) ≡ true) (same_Some _ _ found)
    (go (list_any (same z) kept) refl)
  where
    go : (b : Bool) → list_any (same z) kept ≡ b
        → list_any (same z) (with_new same (if b then kept else kept ++ z ∷ []) xs) ≡ true
    go true is = any_stays same (same z) kept xs is
    go false is =
        any_stays same (same z) (kept ++ z ∷ []) xs
        (list_any-append (same z) kept (z ∷ [])
        ∙ or_right (list_any (same z) kept) (list_any (same z) (z ∷ [])) (or_left (same z z) false (itself z)))
comes_in same itself kept (z ∷ xs) (suc i) x found =
    comes_in same itself (if list_any (same z) kept then kept else kept ++ z ∷ []) xs i x found

adds_nothing : {A : Type 0} (same : A → A → Bool) (kept xs : List A) (i : ℕ) (x : A) → slice_get (with_new same kept xs) i ≡ Some x
    → IsIn kept x ⊎ IsIn xs x
adds_nothing same kept [] i x found = inl (i, found)
adds_nothing {A = A} same kept (z ∷ xs) i x found =
    go (list_any (same z) kept) found (λ (more : List A) (f : slice_get (with_new same more xs) i ≡ Some x).
    adds_nothing same more xs i x f)
  where
    later : IsIn xs x → IsIn (z ∷ xs) x
    later at = (suc at.0, at.1)

    go : (b : Bool) → slice_get (with_new same (if b then kept else kept ++ z ∷ []) xs) i ≡ Some x
        → ((more : List A) → slice_get (with_new same more xs) i ≡ Some x → IsIn more x ⊎ IsIn xs x)
        → IsIn kept x ⊎ IsIn (z ∷ xs) x
    go true f rest = elim (rest kept f) [ inl there ↦ inl there | inr at ↦ inr (later at) ]
    go false f rest =
        elim (rest (kept ++ z ∷ []) f) [
          | inl there ↦
              elim (front_or_last kept z there.0 x there.1) [
                | inl before ↦ inl before
                | inr last ↦ inr (0, ap (λ (y : A). Some y) (sym last))
              ]
          | inr at ↦ inr (later at)
        ]

keeps_first : (A : Type 0) (same : A → A → Bool) → ((x : A) → same x x ≡ true) → KeepsFirstAppearances A same
keeps_first A same itself = record {
  stays = λ kept xs i x found. stays same kept xs i x found;
  comes = λ kept xs x at. position_found (same x) (with_new same kept xs) (comes_in same itself kept xs at.0 x at.1);
  adds_nothing = λ kept xs x at. adds_nothing same kept xs at.0 x at.1;
}

-- ---- What is the same as itself.

name_itself : (name : List ℕ) → bytes_eq (folded name) (folded name) ≡ true
name_itself name = (bytes_eq-Decides (folded name) (folded name)).1 refl

sort_itself : (s : Sort) → is_same_sort s s ≡ true
sort_itself s = and_from _ _ (name_itself s.name) (name_itself s.origin)

operation_itself : (o : Operation) → is_same_operation o o ≡ true
operation_itself o =
    and_from _ _
    (and_from _ _ (and_from _ _ (name_itself o.name) (eq_forms o.form o.form refl))
    (and_from _ _ ((bytes_eq-Decides o.arguments o.arguments).1 refl) (eq-eqb o.result o.result refl)))
    (name_itself o.origin)

equation_itself : (e : Equation) → is_same_equation e e ≡ true
equation_itself e =
    and_from _ _
    (and_from _ _ (eq-eqb e.place.text e.place.text refl)
    (and_from _ _ (eq-eqb e.place.line e.place.line refl) (eq-eqb e.place.column e.place.column refl)))
    (and_from _ _ ((Decides-term_eq e.left e.left).1 refl) ((Decides-term_eq e.right e.right).1 refl))

pub first_appearances : FirstAppearancesAreKept
first_appearances = record {
  sorts = keeps_first Sort is_same_sort sort_itself;
  operations = keeps_first Operation is_same_operation operation_itself;
  equations = keeps_first Equation is_same_equation equation_itself;
}

-- ---- Unions.

pub unions : UnionsKeepAndAdd
unions = record {
  sorts_stay = λ p q i s found. stays is_same_sort p.signature.sorts q.signature.sorts i s found;
  operations_stay = λ p q i o found. stays is_same_operation p.signature.operations (coming_operations p q) i o found;
  sorts_come = λ p q i s found.
      let at = first_appearances.sorts.comes p.signature.sorts q.signature.sorts s (i, found) in
      let there : slice_get (joined_sorts p q) (joined_sort p q i) ≡ Some at.0 =
      ap (λ (o : Option Sort). slice_get (joined_sorts p q) (sort_place_in (joined_sorts p q) o)) found ∙ at.1 in
      (at.0, there, at.2);
  operations_come = λ p q i o found.
      let at = first_appearances.operations.comes p.signature.operations (coming_operations p q) o (i, found) in
      let there : slice_get (joined_operations p q) (joined_operation p q i) ≡ Some at.0 =
      ap (λ (x : Option Operation). slice_get (joined_operations p q) (operation_place_in (joined_operations p q) x)) found ∙ at.1 in
      (at.0, there, at.2);
  no_other_sorts = λ p q s at. first_appearances.sorts.adds_nothing p.signature.sorts q.signature.sorts s at;
  no_other_operations = λ p q o at. first_appearances.operations.adds_nothing p.signature.operations (coming_operations p q) o at;
}

pub position_within : {A : Type 0} (test : A → Bool) (xs : List A) → list_any test xs ≡ true → first_position test xs < length xs
position_within test [] h = cc
position_within {A = A} test (x ∷ xs) h = go (test x) refl (position_within test xs)
  where
    go : (b : Bool) → test x ≡ b → (list_any test xs ≡ true → first_position test xs < length xs)
        → (if b then 0 else suc (first_position test xs)) < suc (length xs)
    go true is rest = omega arith
    go false is rest = let there : first_position test xs < length xs = rest (rw is at h) in omega (arith, there)
