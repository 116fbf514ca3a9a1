-- The steps of the loops over the lists that a tuple is chosen from.
use native.Mathlib.Nat.{mul_assoc, mul-div_cancel_left}
use Rattle.std.proofs.Common.{◌≡◌, ℕ, zero, suc, ◌+◌, ◌*◌, ◌/◌, ◌%◌, ◌<◌, ◌≤◌, List, [], ◌∷◌, ◌++◌, length, get_or, map, drop, Bool, true, false, Vec, Global, nat_eq, refl, ap, sym, ◌∙◌, subst, arith}
use Rattle.std.proofs.lemmas.Bool.{eqb-true, eqb-false}
use Rattle.std.proofs.lemmas.List.{append_assoc, drop_more, get_or_default, length-map, map_push}
use Rattle.std.proofs.lemmas.Nat.{mul-le, div_below, mod_below}
use Rattle.lotos_base.specs.Term.{Term, variable}
use Rattle.lotos_base.proofs.Members.{read_map}
use Rattle.behaviour_tree.specs.BehaviourTerms.{profiles_of}
use Rattle.sort_terms.specs.ProfiledTerm.{ProfiledTerm, profiled_variable, bare}
use Rattle.sort_terms.specs.SortedView.{profiled_in, term_in}
use Rattle.sort_terms.specs.declared.sorted.Sorted.{Sorted}
use Rattle.value_lists.specs.InstanceList.{term_lists_of, profiled_lists_in}
use Rattle.value_lists.specs.TupleNumbers.{has_empty, tuple_at}
use Rattle.value_lists.specs.Tuples.{tuple_count}
use Rattle.value_lists.proofs.TupleLemmas.{count_map, count_positive, at_map, some_left}
use Rattle.value_lists.proofs.ValuesLemmas.{forget_profiles}

abbrev pub Lists : Type 0
Lists = List (Vec Sorted Global)

abbrev profiles : Vec Sorted Global → List ProfiledTerm
profiles list = profiles_of list.items

-- ---- One list more

pub rest_is : (lists : Lists) (i : ℕ) (list : Vec Sorted Global) → i < length lists → list ≡ get_or lists i list
    → drop i (profiled_lists_in lists) ≡ profiles_of list.items ∷ drop (i + 1) (profiled_lists_in lists)
rest_is lists i list within is =
    let count = length-map lists profiles in
    drop_more (profiled_lists_in lists) i (profiles list) (omega (arith, within, count))
    ∙ ap (λ (ts : List ProfiledTerm). ts ∷ drop (i + 1) (profiled_lists_in lists))
    (read_map profiles lists i list ∙ ap profiles (sym is))

count_rest : (lists : Lists) (i : ℕ) (list : Vec Sorted Global) → i < length lists → list ≡ get_or lists i list
    → tuple_count (drop i (profiled_lists_in lists)) ≡ length list.items * tuple_count (drop (i + 1) (profiled_lists_in lists))
count_rest lists i list within is =
    ap tuple_count (rest_is lists i list within is)
    ∙ ap (λ (n : ℕ). n * tuple_count (drop (i + 1) (profiled_lists_in lists))) (length-map list.items profiled_in)

pub count_step : (lists : Lists) (i n total : ℕ) (list : Vec Sorted Global) → i < length lists → list ≡ get_or lists i list
    → n * tuple_count (drop i (profiled_lists_in lists)) ≡ total
    → n * length list.items * tuple_count (drop (i + 1) (profiled_lists_in lists)) ≡ total
count_step lists i n total list within is so_far =
    mul_assoc n (length list.items) (tuple_count (drop (i + 1) (profiled_lists_in lists)))
    ∙ ap (λ (m : ℕ). n * m) (sym (count_rest lists i list within is))
    ∙ so_far

full_rest : {X : Type 0} (lists : List (List X)) (i : ℕ) → has_empty lists ≡ false → has_empty (drop i lists) ≡ false
full_rest [] zero full = full
full_rest [] (suc i) full = full
full_rest (xs ∷ lists) zero full = full
full_rest ([] ∷ lists) (suc i) full = absurd (cc full)
full_rest ((x ∷ xs) ∷ lists) (suc i) full = full_rest lists i full

-- where no list is empty, a count so far is at most the whole one
pub count_below : (lists : Lists) (i n total : ℕ) → has_empty (profiled_lists_in lists) ≡ false
    → n * tuple_count (drop i (profiled_lists_in lists)) ≡ total → n ≤ total
count_below lists i n total full so_far =
    let rest = count_positive (drop i (profiled_lists_in lists)) (full_rest (profiled_lists_in lists) i full) in
    let more = mul-le n 1 n (tuple_count (drop i (profiled_lists_in lists))) (omega arith) rest in
    omega (arith, more, so_far)

-- a list that is too long makes the count too large
pub list_too_long : (lists : Lists) (i n total limit : ℕ) (list : Vec Sorted Global) → has_empty (profiled_lists_in lists) ≡ false
    → i < length lists → list ≡ get_or lists i list → 0 < n → limit < length list.items
    → n * tuple_count (drop i (profiled_lists_in lists)) ≡ total → limit < total
list_too_long lists i n total limit list full within is some long so_far =
    let next = count_step lists i n total list within is so_far in
    let whole = count_below lists (i + 1) (n * length list.items) total full next in
    let more = mul-le 1 (length list.items) n (length list.items) some (omega arith) in
    omega (arith, whole, more, long)

pub count_too_large : (lists : Lists) (i n total limit : ℕ) (list : Vec Sorted Global) → has_empty (profiled_lists_in lists) ≡ false
    → i < length lists → list ≡ get_or lists i list → limit < n * length list.items
    → n * tuple_count (drop i (profiled_lists_in lists)) ≡ total → limit < total
count_too_large lists i n total limit list full within is large so_far =
    let next = count_step lists i n total list within is so_far in
    let whole = count_below lists (i + 1) (n * length list.items) total full next in
    omega (arith, whole, large)

-- ---- Empty lists

pub none_there : (len n : ℕ) → nat_eq len 0 ≡ true → len ≡ n → n ≡ 0
none_there len n h is = let none = eqb-true len 0 h in omega (arith, none, is)

pub some_there : (len n : ℕ) → nat_eq len 0 ≡ false → len ≡ n → 0 < n
some_there len n h is = let some = eqb-false len 0 h in grind (arith, some, is)

pub product_some : (n m : ℕ) → 0 < n → 0 < m → 0 < n * m
product_some n m one other = let both = mul-le 1 1 n m one other in omega (arith, both)

pub list_some : (lists : Lists) (i : ℕ) (list : Vec Sorted Global) → has_empty (profiled_lists_in lists) ≡ false → i < length lists
    → list ≡ get_or lists i list → 0 < length list.items
list_some lists i list full within is =
    go list.items (sym (ap has_empty (rest_is lists i list within is)) ∙ full_rest (profiled_lists_in lists) i full)
  where
    go : (xs : List Sorted) → has_empty (profiles_of xs ∷ drop (i + 1) (profiled_lists_in lists)) ≡ false → 0 < length xs
    go [] h = absurd (cc h)
    go (x ∷ xs) h = omega arith

pub empty_more : (lists : Lists) (i : ℕ) (list : Vec Sorted Global) → i < length lists → list ≡ get_or lists i list
    → 0 < length list.items → has_empty (drop i (profiled_lists_in lists)) ≡ has_empty (drop (i + 1) (profiled_lists_in lists))
empty_more lists i list within is some =
    ap has_empty (rest_is lists i list within is) ∙ filled list.items some
  where
    filled : (xs : List Sorted) → 0 < length xs
        → has_empty (profiles_of xs ∷ drop (i + 1) (profiled_lists_in lists)) ≡ has_empty (drop (i + 1) (profiled_lists_in lists))
    filled [] some = absurd (omega (arith, some))
    filled (x ∷ xs) some = refl

pub empty_here : (lists : Lists) (i : ℕ) (list : Vec Sorted Global) → i < length lists → list ≡ get_or lists i list
    → length list.items ≡ 0 → has_empty (drop i (profiled_lists_in lists)) ≡ true
empty_here lists i list within is none = ap has_empty (rest_is lists i list within is) ∙ empty list.items none
  where
    empty : (xs : List Sorted) → length xs ≡ 0 → has_empty (profiles_of xs ∷ drop (i + 1) (profiled_lists_in lists)) ≡ true
    empty [] none = refl
    empty (x ∷ xs) none = absurd (omega (arith, none))

-- ---- The tuple with a number

-- What the loop knows at a list: how many tuples the lists from here on have, and the number that is left.
pub record IsAt (lists : Lists) (i rest place : ℕ) : Type 0 where
  pub rest_is : rest ≡ tuple_count (drop i (profiled_lists_in lists))
  pub below : place < rest

-- and at the next one
pub record Next (lists : Lists) (i rest place n : ℕ) : Type 0 where
  pub some : 0 < n
  pub width : rest / n ≡ tuple_count (drop (i + 1) (profiled_lists_in lists))
  pub positive : 0 < rest / n
  pub first : place / (rest / n) < n
  pub below : place % (rest / n) < rest / n

next_by : (lists : Lists) (i rest place n width : ℕ) → width ≡ tuple_count (drop (i + 1) (profiled_lists_in lists)) → rest ≡ n * width
    → place < rest → 0 < n → 0 < width → Next lists i rest place n
next_by lists i rest place n width is product less some wide =
    let quotient : rest / n ≡ width = ap (λ (m : ℕ). m / n) product ∙ mul-div_cancel_left width some in
    let small : place < n * width = omega (arith, product, less) in
    record {
      some = some;
      width = quotient ∙ is;
      positive = omega (arith, quotient, wide);
      first = subst (λ (w : ℕ). place / w < n) (sym quotient) (div_below place width n wide small);
      below = subst (λ (w : ℕ). place % w < w) (sym quotient) (mod_below place width wide);
    }

left_some : (m n k : ℕ) → k < m * n → 0 < m
left_some zero n k less = absurd (grind (arith, less))
left_some (suc m) n k less = omega arith

pub next_of : (lists : Lists) (i rest place : ℕ) (list : Vec Sorted Global) → i < length lists → list ≡ get_or lists i list
    → IsAt lists i rest place → Next lists i rest place (length list.items)
next_of lists i rest place list within is at =
    let product : rest ≡ length list.items * tuple_count (drop (i + 1) (profiled_lists_in lists)) =
    at.rest_is ∙ count_rest lists i list within is in
    let below = at.below in
    let less : place < length list.items * tuple_count (drop (i + 1) (profiled_lists_in lists)) = omega (arith, product, below) in
    next_by lists i rest place (length list.items) (tuple_count (drop (i + 1) (profiled_lists_in lists))) refl product at.below
    (left_some (length list.items) (tuple_count (drop (i + 1) (profiled_lists_in lists))) place less)
    (some_left (length list.items) (tuple_count (drop (i + 1) (profiled_lists_in lists))) place less)

-- the tuple with one term more
pub tuple_step : (lists : Lists) (i rest place : ℕ) (list : Vec Sorted Global) (tuple more : List Sorted) (copy value : Sorted)
    (whole : List ProfiledTerm) → i < length lists → list ≡ get_or lists i list → IsAt lists i rest place
    → more ≡ tuple ++ copy ∷ [] → profiled_in copy ≡ profiled_in value
    → value ≡ get_or list.items (place / (rest / length list.items)) value
    → profiles_of tuple ++ tuple_at (drop i (profiled_lists_in lists)) place (profiled_variable 0 0) ≡ whole
    → profiles_of more ++ tuple_at (drop (i + 1) (profiled_lists_in lists)) (place % (rest / length list.items))
    (profiled_variable 0 0) ≡ whole
tuple_step lists i rest place list tuple more copy value whole within is at added copied read so_far =
    let next = next_of lists i rest place list within is at in
    let width : rest / length list.items ≡ tuple_count (drop (i + 1) (profiled_lists_in lists)) = next.width in
    let count = length-map list.items profiled_in in
    let first : get_or (profiles_of list.items) (place / tuple_count (drop (i + 1) (profiled_lists_in lists))) (profiled_variable 0 0)
    ≡ profiled_in value =
    ap (λ (w : ℕ). get_or (profiles_of list.items) (place / w) (profiled_variable 0 0)) (sym width)
    ∙ get_or_default (profiles_of list.items) (place / (rest / length list.items)) (profiled_variable 0 0) (profiled_in value)
    (let small = next.first in omega (arith, small, count))
    ∙ read_map profiled_in list.items (place / (rest / length list.items)) value ∙ ap profiled_in (sym read) in
    let rest_tuple : tuple_at (drop i (profiled_lists_in lists)) place (profiled_variable 0 0)
    ≡ profiled_in value ∷ tuple_at (drop (i + 1) (profiled_lists_in lists)) (place % (rest / length list.items)) (profiled_variable 0 0) =
    ap (λ (xss : List (List ProfiledTerm)). tuple_at xss place (profiled_variable 0 0)) (rest_is lists i list within is)
    ∙ (λ j. first j ∷ tuple_at (drop (i + 1) (profiled_lists_in lists)) (place % sym width j) (profiled_variable 0 0)) in
    ap (λ (ts : List ProfiledTerm). ts ++ tuple_at (drop (i + 1) (profiled_lists_in lists)) (place % (rest / length list.items))
    (profiled_variable 0 0))
    (ap profiles_of added ∙ map_push profiled_in tuple copy ∙ ap (λ (t : ProfiledTerm). profiles_of tuple ++ t ∷ []) copied)
    ∙ append_assoc (profiles_of tuple) (profiled_in value ∷ [])
    (tuple_at (drop (i + 1) (profiled_lists_in lists)) (place % (rest / length list.items)) (profiled_variable 0 0))
    ∙ ap (λ (ts : List ProfiledTerm). profiles_of tuple ++ ts) (sym rest_tuple)
    ∙ so_far

-- ---- The lists of terms

pub lists_are : (lists : Lists) → term_lists_of lists ≡ map (map bare) (profiled_lists_in lists)
lists_are [] = refl
lists_are (list ∷ lists) = λ i. forget_profiles list.items i ∷ lists_are lists i

pub count_lists : (lists : Lists) → tuple_count (term_lists_of lists) ≡ tuple_count (profiled_lists_in lists)
count_lists lists = ap tuple_count (lists_are lists) ∙ count_map bare (profiled_lists_in lists)

-- the terms of a tuple are those of the tuple of terms with this number
pub tuple_terms : (lists : Lists) (number : ℕ) (tuple : List Sorted)
    → profiles_of tuple ≡ tuple_at (profiled_lists_in lists) number (profiled_variable 0 0)
    → map term_in tuple ≡ tuple_at (term_lists_of lists) number (variable 0 0)
tuple_terms lists number tuple is =
    forget_profiles tuple
    ∙ ap (map bare) is
    ∙ sym (at_map bare (profiled_lists_in lists) number (profiled_variable 0 0))
    ∙ ap (λ (xss : List (List Term)). tuple_at xss number (variable 0 0)) (sym (lists_are lists))
