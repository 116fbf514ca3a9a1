-- Numbers of variables that are collected one after another.
use Rattle.std.proofs.Common.{◌≡◌, ℕ, suc, ◌+◌, ◌<◌, ◌≤◌, Bool, true, false, List, [], ◌∷◌, ◌++◌, map, length, drop, get_or, append_assoc, cond, refl, ap, sym, ◌∙◌, arith}
use Rattle.std.specs.Prelude.{Option, Some, None, slice_get, nat_eq, nat_lt, position, if◌then◌else◌}
use Rattle.std.specs.Option.{option_map}
use Rattle.std.specs.List.{list_any, position_or_len}
use Rattle.std.proofs.lemmas.Bool.{ltb-false}
use Rattle.std.proofs.lemmas.List.{append-nil, drop_more, map-append}
use Rattle.std.proofs.lemmas.List.Recursion.{is_position_or_len}
use Rattle.std.proofs.lemmas.Option.{slice_get-map}
use Rattle.lotos_base.specs.Equation.{Variable}
use Rattle.sort_terms.specs.EquationView.{variable_of}
use Rattle.sort_terms.specs.TermView.{term_of, bare_terms_of}
use Rattle.sort_terms.specs.declared.equations.Variable.{Variable as CodeVariable}
use Rattle.sort_terms.specs.declared.terms.Term.{Term}
use Rattle.type_definitions.specs.Presentation.{with_new, first_position}
use Rattle.type_definitions.specs.DeclaredEquations.{numbers_in_term, variable_numbers_among, declared_as, declared_from}

pub new_twice : (kept xs ys : List ℕ) → with_new nat_eq kept (xs ++ ys) ≡ with_new nat_eq (with_new nat_eq kept xs) ys
new_twice kept [] ys = refl
new_twice kept (x ∷ xs) ys = new_twice (if list_any (nat_eq x) kept then kept else kept ++ x ∷ []) xs ys

-- one term of the list has come
pub collected_more : (terms : List Term) (i : ℕ) (t : Term) (now new start : List ℕ) → i < length terms → t ≡ get_or terms i t
    → with_new nat_eq now (variable_numbers_among (bare_terms_of (drop i terms))) ≡ start
    → new ≡ with_new nat_eq now (numbers_in_term (term_of t))
    → with_new nat_eq new (variable_numbers_among (bare_terms_of (drop (i + 1) terms))) ≡ start
collected_more terms i t now new start within is so_far one =
    let rest : List ℕ = variable_numbers_among (bare_terms_of (drop (i + 1) terms)) in
    let next : drop i terms ≡ t ∷ drop (i + 1) terms =
    drop_more terms i t within ∙ ap (λ (u : Term). u ∷ drop (i + 1) terms) (sym is) in
    ap (λ (ns : List ℕ). with_new nat_eq ns rest) one ∙ sym (new_twice now (numbers_in_term (term_of t)) rest)
    ∙ ap (λ (ts : List Term). with_new nat_eq now (variable_numbers_among (bare_terms_of ts))) (sym next) ∙ so_far

-- ---- Where a number stands.

abbrev or_else : ℕ → Option ℕ → ℕ
or_else past None = past
or_else past (Some n) = n

step : (test : ℕ → Bool) (x : ℕ) (xs : List ℕ) → first_position test (x ∷ xs) ≡ cond (test x) 0 (1 + first_position test xs)
step test x xs = go (test x)
  where
    go : (b : Bool) → (if b then 0 else suc (first_position test xs)) ≡ cond b 0 (1 + first_position test xs)
    go true = refl
    go false = omega arith

within : (test : ℕ → Bool) (xs : List ℕ) → first_position test xs ≤ length xs
within test [] = omega arith
within test (x ∷ xs) = go (test x) (within test xs)
  where
    go : (b : Bool) → first_position test xs ≤ length xs → (if b then 0 else suc (first_position test xs)) ≤ length (x ∷ xs)
    go true rest = omega arith
    go false rest = omega arith

stands_at : (test : ℕ → Bool) (xs : List ℕ) → first_position test xs ≡ or_else (length xs) (position test xs)
stands_at test xs = go (nat_lt (position_or_len test xs) (length xs)) refl
  where
    is : first_position test xs ≡ position_or_len test xs
    is = is_position_or_len (first_position test) test refl (step test) xs

    go : (b : Bool) → nat_lt (position_or_len test xs) (length xs) ≡ b
        → first_position test xs ≡ or_else (length xs) (cond b (Some (position_or_len test xs)) None)
    go true inside = is
    go false past =
        let least : length xs ≤ position_or_len test xs = ltb-false (position_or_len test xs) (length xs) past in
        let most : first_position test xs ≤ length xs = within test xs in
        omega (arith, is, least, most)

pub found_at : (test : ℕ → Bool) (xs : List ℕ) (n : ℕ) → Some n ≡ position test xs → n ≡ first_position test xs
found_at test xs n is = ap (λ (o : Option ℕ). or_else (length xs) o) is ∙ sym (stands_at test xs)

pub found_nowhere : (test : ℕ → Bool) (xs : List ℕ) (n : ℕ) → n ≡ length xs → None ≡ position test xs → n ≡ first_position test xs
found_nowhere test xs n past none = past ∙ ap (λ (o : Option ℕ). or_else (length xs) o) none ∙ sym (stands_at test xs)

-- ---- Variables that are declared one after another.

declared_more : (scope : List Variable) (order : List ℕ) (i : ℕ) → i < length order
    → declared_from scope i (drop i order)
    ≡ declared_as i (slice_get scope (get_or order i 0)) ++ declared_from scope (i + 1) (drop (i + 1) order)
declared_more scope order i inside =
    let next : suc i ≡ i + 1 = omega arith in
    ap (λ (ns : List ℕ). declared_from scope i ns) (drop_more order i 0 inside)
    ∙ ap (λ (k : ℕ). declared_as i (slice_get scope (get_or order i 0)) ++ declared_from scope k (drop (i + 1) order)) next

-- one more variable is there
pub variables_more : (scope : List Variable) (order : List ℕ) (i n : ℕ) (made more whole : List Variable) → i < length order
    → n ≡ get_or order i 0 → more ≡ made ++ declared_as i (slice_get scope n)
    → made ++ declared_from scope i (drop i order) ≡ whole
    → more ++ declared_from scope (i + 1) (drop (i + 1) order) ≡ whole
variables_more scope order i n made more whole inside is grown so_far =
    let rest : List Variable = declared_from scope (i + 1) (drop (i + 1) order) in
    ap (λ (vs : List Variable). vs ++ rest) grown ∙ append_assoc made (declared_as i (slice_get scope n)) rest
    ∙ ap (λ (k : ℕ). made ++ (declared_as i (slice_get scope k) ++ rest)) is
    ∙ ap (λ (vs : List Variable). made ++ vs) (sym (declared_more scope order i inside)) ∙ so_far

-- a variable that is in scope, or none
pub not_in_scope : (made : List Variable) (scope : List CodeVariable) (number old : ℕ) → slice_get scope old ≡ None
    → made ≡ made ++ declared_as number (slice_get (map variable_of scope) old)
not_in_scope made scope number old none =
    let nothing : slice_get (map variable_of scope) old ≡ None =
    slice_get-map variable_of scope old ∙ ap (λ (o : Option CodeVariable). option_map variable_of o) none in
    sym (append-nil made) ∙ ap (λ (o : Option Variable). made ++ declared_as number o) (sym nothing)

pub in_scope : (made new : List CodeVariable) (scope : List CodeVariable) (number old : ℕ) (v pushed : CodeVariable)
    → new ≡ made ++ pushed ∷ [] → slice_get scope old ≡ Some v
    → variable_of pushed ≡ record { name = (variable_of v).name; number = number; sort = (variable_of v).sort }
    → map variable_of new ≡ map variable_of made ++ declared_as number (slice_get (map variable_of scope) old)
in_scope made new scope number old v pushed grown found is =
    let there : slice_get (map variable_of scope) old ≡ Some (variable_of v) =
    slice_get-map variable_of scope old ∙ ap (λ (o : Option CodeVariable). option_map variable_of o) found in
    ap (λ (vs : List CodeVariable). map variable_of vs) grown ∙ map-append variable_of made (pushed ∷ [])
    ∙ ap (λ (x : Variable). map variable_of made ++ x ∷ []) is
    ∙ ap (λ (o : Option Variable). map variable_of made ++ declared_as number o) (sym there)
