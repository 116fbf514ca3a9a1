-- What is formal and what is not, and the actual ones of what is formal.
use Rattle.std.proofs.Common.{◌≡◌, ℕ, zero, suc, ◌+◌, Bool, true, false, List, [], ◌∷◌, map, refl, sym, subst, arith}
use Rattle.std.specs.Prelude.{Some, None, slice_get, ◌||◌, ◌&&◌, not, nat_eq, if◌then◌else◌}
use Rattle.std.specs.Str.{bytes_eq}
use Rattle.std.proofs.lemmas.Bool.{eqb-true, and_parts, both_ways}
use Rattle.std.proofs.lemmas.Option.{none-some, same_Some}
use Rattle.std.proofs.lemmas.Slice.Eq.{bytes_eq-Decides}
use Rattle.lotos_base.specs.Signature.{Sort, Operation, Form}
use Rattle.lotos_base.specs.Twins.{form_eq}
use Rattle.sort_terms.specs.ReadingOutcome.{one_name, is_sort_name}
use Rattle.type_definitions.specs.TypeFault.{TypeFault, fault_if}
use Rattle.type_definitions.specs.Presentation.{is_marked_number}
use Rattle.type_definitions.specs.UnionLaws.{IsIn}
use Rattle.type_definitions.specs.Renaming.{pair_for}
use Rattle.type_definitions.specs.Actualisation.{Actualising, marked_from, unmarked_from, actual_name, actualised_sort, is_actual, has_actual, other_form}
use Rattle.type_definitions.specs.ActualisationFaults.{formal_sort_fault, formal_operation_fault, no_actual_sort, missing}
use Rattle.type_definitions.proofs.FaultLemmas.{none_first}

-- ---- Marked and unmarked members.

pub marked_there : {A : Type 0} (marks : List ℕ) (n i : ℕ) (xs : List A) (x : A) → slice_get xs i ≡ Some x
    → is_marked_number marks (n + i) ≡ true
    → IsIn (marked_from marks n xs) x
marked_there marks n i [] x found h = absurd (none-some x found)
marked_there {A = A} marks n zero (y ∷ ys) x found h =
    go (is_marked_number marks n) refl
  where
    here : is_marked_number marks n ≡ true
    here = let at : n + 0 ≡ n = omega arith in subst (λ (k : ℕ). is_marked_number marks k ≡ true) at h

    go : (b : Bool) → is_marked_number marks n ≡ b
        → IsIn (if b then y ∷ marked_from marks (suc n) ys else marked_from marks (suc n) ys) x
    go true is = (0, found)
    go false is = absurd (both_ways (is_marked_number marks n) is here)
marked_there {A = A} marks n (suc i) (y ∷ ys) x found h =
    go (is_marked_number marks n) (marked_there marks (suc n) i ys x found (subst (λ (k : ℕ). is_marked_number marks k ≡ true) at h))
  where
    at : n + suc i ≡ suc n + i
    at = omega arith

    go : (b : Bool) → IsIn (marked_from marks (suc n) ys) x
        → IsIn (if b then y ∷ marked_from marks (suc n) ys else marked_from marks (suc n) ys) x
    go true later = (suc later.0, later.1)
    go false later = later

pub unmarked_there : {A : Type 0} (marks : List ℕ) (n i : ℕ) (xs : List A) (x : A) → slice_get xs i ≡ Some x
    → is_marked_number marks (n + i) ≡ false → IsIn (unmarked_from marks n xs) x
unmarked_there marks n i [] x found h = absurd (none-some x found)
unmarked_there {A = A} marks n zero (y ∷ ys) x found h =
    go (is_marked_number marks n) refl
  where
    here : is_marked_number marks n ≡ false
    here = let at : n + 0 ≡ n = omega arith in subst (λ (k : ℕ). is_marked_number marks k ≡ false) at h

    go : (b : Bool) → is_marked_number marks n ≡ b
        → IsIn (if b then unmarked_from marks (suc n) ys else y ∷ unmarked_from marks (suc n) ys) x
    go true is = absurd (both_ways (is_marked_number marks n) here is)
    go false is = (0, found)
unmarked_there {A = A} marks n (suc i) (y ∷ ys) x found h =
    go (is_marked_number marks n) (unmarked_there marks (suc n) i ys x found (subst (λ (k : ℕ). is_marked_number marks k ≡ false) at h))
  where
    at : n + suc i ≡ suc n + i
    at = omega arith

    go : (b : Bool) → IsIn (unmarked_from marks (suc n) ys) x
        → IsIn (if b then unmarked_from marks (suc n) ys else y ∷ unmarked_from marks (suc n) ys) x
    go true later = later
    go false later = (suc later.0, later.1)

pub unmarked_in : {A : Type 0} (marks : List ℕ) (n : ℕ) (xs : List A) (x : A) → IsIn (unmarked_from marks n xs) x → IsIn xs x
unmarked_in marks n [] x at = absurd (none-some x at.1)
unmarked_in {A = A} marks n (y ∷ ys) x at =
    go (is_marked_number marks n) at (unmarked_in marks (suc n) ys x)
  where
    later : IsIn ys x → IsIn (y ∷ ys) x
    later there = (suc there.0, there.1)

    front : (i : ℕ) → slice_get (y ∷ unmarked_from marks (suc n) ys) i ≡ Some x
        → (IsIn (unmarked_from marks (suc n) ys) x → IsIn ys x) → IsIn (y ∷ ys) x
    front zero found rest = (0, found)
    front (suc i) found rest = later (rest (i, found))

    go : (b : Bool) → IsIn (if b then unmarked_from marks (suc n) ys else y ∷ unmarked_from marks (suc n) ys) x
        → (IsIn (unmarked_from marks (suc n) ys) x → IsIn ys x) → IsIn (y ∷ ys) x
    go true there rest = later (rest there)
    go false there rest = front there.0 there.1 rest

-- ---- No fault.

not_so : (test : Bool) (fault : TypeFault) → fault_if (not test) fault ≡ None → test ≡ true
not_so true fault h = refl
not_so false fault h = absurd (none-some fault (sym h))

pub sort_has_actual : (a : Actualising) (ss : List Sort) (i : ℕ) (s : Sort) → formal_sort_fault a ss ≡ None → slice_get ss i ≡ Some s
    → is_sort_name a.actual.signature (actual_name s.name (pair_for a.pairs.sort_pairs s.name)) ≡ true
sort_has_actual a [] i s fine found = absurd (none-some s found)
sort_has_actual a (r ∷ ss) zero s fine found =
    let here : is_sort_name a.actual.signature (actual_name r.name (pair_for a.pairs.sort_pairs r.name)) ≡ true =
    not_so (is_sort_name a.actual.signature (actual_name r.name (pair_for a.pairs.sort_pairs r.name)))
    (no_actual_sort a r.name (pair_for a.pairs.sort_pairs r.name))
    (none_first
    (fault_if (not (is_sort_name a.actual.signature (actual_name r.name (pair_for a.pairs.sort_pairs r.name))))
    (no_actual_sort a r.name (pair_for a.pairs.sort_pairs r.name)))
    (formal_sort_fault a ss) fine).0 in
    subst (λ (q : Sort). is_sort_name a.actual.signature (actual_name q.name (pair_for a.pairs.sort_pairs q.name)) ≡ true)
    (same_Some _ _ found) here
sort_has_actual a (r ∷ ss) (suc i) s fine found =
    sort_has_actual a ss i s
    (none_first
    (fault_if (not (is_sort_name a.actual.signature (actual_name r.name (pair_for a.pairs.sort_pairs r.name))))
    (no_actual_sort a r.name (pair_for a.pairs.sort_pairs r.name)))
    (formal_sort_fault a ss) fine).1
    found

-- whether there is an actual operation in one of the forms
abbrev pub has_some : Actualising → Operation → Bool
has_some a o = has_actual a o o.form || has_actual a o (other_form o.form)

pub operation_has_actual : (a : Actualising) (os : List Operation) (i : ℕ) (o : Operation) → formal_operation_fault a os ≡ None
    → slice_get os i ≡ Some o → has_some a o ≡ true
operation_has_actual a [] i o fine found = absurd (none-some o found)
operation_has_actual a (u ∷ os) zero o fine found =
    subst (λ (q : Operation). has_some a q ≡ true) (same_Some _ _ found)
    (not_so (has_some a u) (missing a u.name)
    (none_first (fault_if (not (has_some a u)) (missing a u.name)) (formal_operation_fault a os) fine).0)
operation_has_actual a (u ∷ os) (suc i) o fine found =
    operation_has_actual a os i o
    (none_first (fault_if (not (has_some a u)) (missing a u.name)) (formal_operation_fault a os) fine).1
    found

-- ---- What stands at a first position.

-- the form in which the actual operation is taken
abbrev pub taken_form : Actualising → Operation → Form
taken_form a o = if has_actual a o o.form then o.form else other_form o.form

pub form_taken : (a : Actualising) (o : Operation) → has_some a o ≡ true → has_actual a o (taken_form a o) ≡ true
form_taken a o some = go (has_actual a o o.form) refl some
  where
    go : (b : Bool) → has_actual a o o.form ≡ b → (b || has_actual a o (other_form o.form)) ≡ true
        → has_actual a o (if b then o.form else other_form o.form) ≡ true
    go true is h = is
    go false is h = h

-- an actual operation has the image of the profile
pub actual_profile : (a : Actualising) (formal : Operation) (form : Form) (o : Operation) → is_actual a formal form o ≡ true
    → (o.arguments ≡ map (actualised_sort a) formal.arguments) × (o.result ≡ actualised_sort a formal.result)
actual_profile a formal form o h =
    let named : Bool = one_name o.name (actual_name formal.name (pair_for a.pairs.operation_pairs formal.name)) && form_eq o.form form in
    let arguments : Bool = bytes_eq o.arguments (map (actualised_sort a) formal.arguments) in
    let result : Bool = nat_eq o.result (actualised_sort a formal.result) in
    let parts = and_parts named (arguments && result) h in
    let both = and_parts arguments result parts.1 in (
      (bytes_eq-Decides o.arguments (map (actualised_sort a) formal.arguments)).0 both.0,
      eqb-true o.result (actualised_sort a formal.result) both.1,
    )
