-- Variables that occur in a reading, and in a term whose variables got new numbers.
use Rattle.std.proofs.Common.{◌≡◌, ℕ, suc, Bool, true, false, List, [], ◌∷◌, ◌++◌, ◌⊎◌, inl, inr, refl, ap, sym, ◌∙◌, subst}
use Rattle.std.specs.Prelude.{Some, slice_get, nat_eq, if◌then◌else◌}
use Rattle.std.specs.List.{list_any}
use Rattle.std.proofs.lemmas.Bool.{or_left}
use Rattle.lotos_base.specs.WrittenTerm.{WrittenTerm, WrittenTerms, written, no_written, written_then}
use Rattle.lotos_base.specs.Signature.{Signature}
use Rattle.lotos_base.specs.Equation.{Variable}
use Rattle.lotos_base.specs.Term.{Term, Terms, variable, node, no_terms, term_then}
use Rattle.lotos_base.specs.Sorting.{HasSort, HaveSorts, Occurs, OccursAmong}
use Rattle.sort_terms.specs.Reading.{Reads, AllRead}
use Rattle.type_definitions.specs.TypeGraph.{is_among}
use Rattle.type_definitions.proofs.NumberLists.{among_left, among_right, among_cases, among_one, one_among, among_none}
use Rattle.type_definitions.specs.Presentation.{with_new, first_position}
use Rattle.type_definitions.specs.DeclaredEquations.{numbers_in_term, variable_numbers_among, renumbered, renumbered_among}
use Rattle.type_equations.specs.SideLaws.{AreNumberedByPosition}

-- ---- In a reading.

-- the variable in scope with this number has this sort
abbrev pub IsInScope : List Variable → ℕ → ℕ → Type 0
IsInScope scope n s = (v : Variable) × (slice_get scope n ≡ Some v) × (v.sort ≡ s)

mutual
  pub in_scope : (signature : Signature) (scope : List Variable) → AreNumberedByPosition scope → (w : WrittenTerm) (t : Term)
      (sort n s : ℕ) → Reads signature scope w t sort → Occurs n s t → IsInScope scope n s
  in_scope signature scope numbered (written head ws) (variable m r) sort n s reads o =
      let v = reads.0 in
      let at : v.last.position ≡ n = sym (numbered v.last.position v.declared v.last.found) ∙ v.numbered ∙ o.0 in
      (v.declared, subst (λ (i : ℕ). slice_get scope i ≡ Some v.declared) at v.last.found, v.sorted ∙ o.1)
  in_scope signature scope numbered (written head ws) (node f ts) sort n s reads o =
      among_in_scope signature scope numbered ws ts reads.0.arguments n s reads.3 o

  among_in_scope : (signature : Signature) (scope : List Variable) → AreNumberedByPosition scope → (ws : WrittenTerms) (ts : Terms)
      (sorts : List ℕ) (n s : ℕ) → AllRead signature scope ws ts sorts → OccursAmong n s ts → IsInScope scope n s
  among_in_scope signature scope numbered no_written no_terms sorts n s reads o = absurd o
  among_in_scope signature scope numbered no_written (term_then t ts) sorts n s reads o = absurd reads
  among_in_scope signature scope numbered (written_then w ws) no_terms sorts n s reads o = absurd o
  among_in_scope signature scope numbered (written_then w ws) (term_then t ts) [] n s reads o = absurd reads
  among_in_scope signature scope numbered (written_then w ws) (term_then t ts) (r ∷ rs) n s reads o =
      elim o [
        | inl here ↦ in_scope signature scope numbered w t r n s reads.0 here
        | inr there ↦ among_in_scope signature scope numbered ws ts rs n s reads.1 there
      ]

-- ---- Under new numbers.

mutual
  pub renumbered_sorted : (signature : Signature) (order : List ℕ) (t : Term) (s : ℕ) → HasSort signature t s
      → HasSort signature (renumbered order t) s
  renumbered_sorted signature order (variable n r) s h = h
  renumbered_sorted signature order (node f ts) s h = (h.0, h.1, h.2, all_renumbered_sorted signature order ts h.0.arguments h.3)

  all_renumbered_sorted : (signature : Signature) (order : List ℕ) (ts : Terms) (sorts : List ℕ) → HaveSorts signature ts sorts
      → HaveSorts signature (renumbered_among order ts) sorts
  all_renumbered_sorted signature order no_terms [] h = h
  all_renumbered_sorted signature order no_terms (s ∷ ss) h = h
  all_renumbered_sorted signature order (term_then t ts) [] h = h
  all_renumbered_sorted signature order (term_then t ts) (s ∷ ss) h =
      (renumbered_sorted signature order t s h.0, all_renumbered_sorted signature order ts ss h.1)

-- the old number of a variable that occurs
abbrev pub HasOldNumber : List ℕ → Term → ℕ → ℕ → Type 0
HasOldNumber order t n s = (m : ℕ) × (first_position (nat_eq m) order ≡ n) × Occurs m s t

abbrev HasOldNumberAmong : List ℕ → Terms → ℕ → ℕ → Type 0
HasOldNumberAmong order ts n s = (m : ℕ) × (first_position (nat_eq m) order ≡ n) × OccursAmong m s ts

mutual
  pub old_number : (order : List ℕ) (t : Term) (n s : ℕ) → Occurs n s (renumbered order t) → HasOldNumber order t n s
  old_number order (variable m r) n s o = (m, o.0, (refl, o.1))
  old_number order (node f ts) n s o = old_number_among order ts n s o

  old_number_among : (order : List ℕ) (ts : Terms) (n s : ℕ) → OccursAmong n s (renumbered_among order ts)
      → HasOldNumberAmong order ts n s
  old_number_among order no_terms n s o = absurd o
  old_number_among order (term_then t ts) n s o =
      elim o [
        | inl here ↦ let old = old_number order t n s here in (old.0, old.1, inl old.2)
        | inr there ↦ let old = old_number_among order ts n s there in (old.0, old.1, inr old.2)
      ]

-- ---- Numbers of variables.

mutual
  pub numbers_have : (t : Term) (n s : ℕ) → Occurs n s t → is_among (numbers_in_term t) n ≡ true
  numbers_have (variable m r) n s o = one_among m n (sym o.0)
  numbers_have (node f ts) n s o = numbers_among_have ts n s o

  numbers_among_have : (ts : Terms) (n s : ℕ) → OccursAmong n s ts → is_among (variable_numbers_among ts) n ≡ true
  numbers_among_have no_terms n s o = absurd o
  numbers_among_have (term_then t ts) n s o =
      elim o [
        | inl here ↦ among_left (numbers_in_term t) (variable_numbers_among ts) n (numbers_have t n s here)
        | inr there ↦ among_right (numbers_in_term t) (variable_numbers_among ts) n (numbers_among_have ts n s there)
      ]

mutual
  pub occurs_numbered : (t : Term) (n : ℕ) → is_among (numbers_in_term t) n ≡ true → (s : ℕ) × Occurs n s t
  occurs_numbered (variable m r) n h = (r, (sym (among_one m n h), refl))
  occurs_numbered (node f ts) n h = occurs_numbered_among ts n h

  occurs_numbered_among : (ts : Terms) (n : ℕ) → is_among (variable_numbers_among ts) n ≡ true → (s : ℕ) × OccursAmong n s ts
  occurs_numbered_among no_terms n h = among_none n h
  occurs_numbered_among (term_then t ts) n h =
      elim (among_cases (numbers_in_term t) (variable_numbers_among ts) n h) [
        | inl here ↦ let at = occurs_numbered t n here in (at.0, inl at.1)
        | inr there ↦ let at = occurs_numbered_among ts n there in (at.0, inr at.1)
      ]

-- ---- Numbers that are kept once.

-- what is kept stays
stays : (kept xs : List ℕ) (n : ℕ) → is_among kept n ≡ true → is_among (with_new nat_eq kept xs) n ≡ true
stays kept [] n h = h
stays kept (x ∷ xs) n h =
    go (list_any (nat_eq x) kept) (λ (more : List ℕ) (f : is_among more n ≡ true). stays more xs n f)
  where
    go : (b : Bool) → ((more : List ℕ) → is_among more n ≡ true → is_among (with_new nat_eq more xs) n ≡ true)
        → is_among (with_new nat_eq (if b then kept else kept ++ x ∷ []) xs) n ≡ true
    go true rest = rest kept h
    go false rest = rest (kept ++ x ∷ []) (among_left kept (x ∷ []) n h)

pub comes : (kept xs : List ℕ) (n : ℕ) → is_among xs n ≡ true → is_among (with_new nat_eq kept xs) n ≡ true
comes kept [] n h = among_none n h
comes kept (x ∷ xs) n h =
    elim (among_cases (x ∷ []) xs n h) [
      | inl here ↦
          subst (λ (m : ℕ). is_among (with_new nat_eq kept (x ∷ xs)) m ≡ true) (sym (among_one x n here))
          (go (list_any (nat_eq x) kept) refl)
      | inr there ↦ comes (if list_any (nat_eq x) kept then kept else kept ++ x ∷ []) xs n there
    ]
  where
    go : (b : Bool) → list_any (nat_eq x) kept ≡ b
        → is_among (with_new nat_eq (if b then kept else kept ++ x ∷ []) xs) x ≡ true
    go true is = stays kept xs x is
    go false is = stays (kept ++ x ∷ []) xs x (among_right kept (x ∷ []) x (one_among x x refl))

pub adds_nothing : (kept xs : List ℕ) (n : ℕ) → is_among (with_new nat_eq kept xs) n ≡ true
    → (is_among kept n ≡ true) ⊎ (is_among xs n ≡ true)
adds_nothing kept [] n h = inl h
adds_nothing kept (x ∷ xs) n h =
    go (list_any (nat_eq x) kept) h (λ (more : List ℕ) (f : is_among (with_new nat_eq more xs) n ≡ true). adds_nothing more xs n f)
  where
    go : (b : Bool) → is_among (with_new nat_eq (if b then kept else kept ++ x ∷ []) xs) n ≡ true
        → ((more : List ℕ) → is_among (with_new nat_eq more xs) n ≡ true → (is_among more n ≡ true) ⊎ (is_among xs n ≡ true))
        → (is_among kept n ≡ true) ⊎ (is_among (x ∷ xs) n ≡ true)
    go true f rest =
        elim (rest kept f) [ inl there ↦ inl there | inr later ↦ inr (among_right (x ∷ []) xs n later) ]
    go false f rest =
        elim (rest (kept ++ x ∷ []) f) [
          | inl there ↦
              elim (among_cases kept (x ∷ []) n there) [
                | inl before ↦ inl before
                | inr last ↦ inr (among_left (x ∷ []) xs n last)
              ]
          | inr later ↦ inr (among_right (x ∷ []) xs n later)
        ]

-- the position of a number that is there
pub stands_there : (xs : List ℕ) (n : ℕ) → is_among xs n ≡ true → slice_get xs (first_position (nat_eq n) xs) ≡ Some n
stands_there [] n h = among_none n h
stands_there (x ∷ xs) n h = go (nat_eq n x) refl (stands_there xs n)
  where
    go : (b : Bool) → nat_eq n x ≡ b → (is_among xs n ≡ true → slice_get xs (first_position (nat_eq n) xs) ≡ Some n)
        → slice_get (x ∷ xs) (if b then 0 else suc (first_position (nat_eq n) xs)) ≡ Some n
    go true is rest = ap (λ (m : ℕ). Some m) (sym (among_one x n (or_left (nat_eq n x) false is)))
    go false is rest = let later : is_among xs n ≡ true = rw is at h in rest later
