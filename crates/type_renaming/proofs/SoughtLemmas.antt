-- Actual operations are found by name, form and profile.
use Rattle.std.proofs.Common.{◌≡◌, ℕ, suc, ◌<◌, ◌≤◌, cond, append_assoc, Bool, true, false, List, [], ◌∷◌, ◌++◌, map, length, drop, get_or, ◌+◌, refl, ap, sym, ◌∙◌, subst, arith, Vec}
use Rattle.std.proofs.Math.Path.{fun_ext}
use Rattle.std.specs.Prelude.{Option, Some, None, ◌||◌, nat_lt, position, MatchOption, if◌then◌else◌}
use Rattle.std.specs.List.{list_any, position_or_len}
use Rattle.std.specs.Str.{bytes_eq}
use Rattle.std.specs.declared.alloc.Global.{Global}
use Rattle.std.proofs.lemmas.Bool.{ltb-true, ltb-false, or_parts}
use Rattle.std.proofs.lemmas.List.{append-nil, map-append}
use Rattle.std.proofs.lemmas.Option.{none-some, same_Some}
use Rattle.lotos_base.specs.Signature.{Operation, Form}
use Rattle.syntax_trees.specs.WrittenItem.{WrittenPair}
use Rattle.sort_terms.specs.Operations.{operation_of}
use Rattle.sort_terms.specs.declared.operations.Op.{Op as CodeOp}
use Rattle.sort_terms.specs.WellFormedTest.{all_differ, are_one_operation}
use Rattle.sort_terms.proofs.WellFormedLemmas.{earlier_differ}
use Rattle.type_definitions.proofs.WalkLemmas.{next_of}
use Rattle.type_definitions.specs.Presentation.{with_new, first_position}
use Rattle.type_definitions.specs.Actualisation.{Actualising, actual_operation, actualised_sort, has_actual, is_actual, other_form}
use Rattle.type_definitions.proofs.WithNewLemmas.{position_within}
use Rattle.type_presentations.specs.Keys.{profile_key}
use Rattle.type_presentations.proofs.AddedLemmas.{by_profile}
use Rattle.type_presentations.proofs.KeptLemmas.{first_is_position}
use Rattle.type_presentations.proofs.KeyedLemmas.{any_by_key, first_by_key, mutual_by_key}
use Rattle.type_presentations.proofs.KeySetLemmas.{items_of, has_items, any_items, first_items}
use Rattle.type_renaming.specs.ProfilesView.{HasProfiles}
use Rattle.type_renaming.specs.declared.profile_index.ProfileIndex.{ProfileIndex}
use Rattle.type_renaming.specs.Actuals.{IsActualOf, has_actual_in_some_form, operation_lacks_actual, sought_operation}

-- ---- Keys of operations, no two of which have one name, form and profile.

keys_kept : (kept xs : List Operation) → all_differ are_one_operation (kept ++ xs) ≡ true
    → with_new bytes_eq (map profile_key kept) (map profile_key xs) ≡ map profile_key (kept ++ xs)
keys_kept kept [] differ = ap (λ (os : List Operation). map profile_key os) (sym (append-nil kept))
keys_kept kept (x ∷ xs) differ =
    let turned : (o u : Operation) → are_one_operation o u ≡ are_one_operation u o =
    mutual_by_key by_profile.key by_profile.same by_profile.tell in
    let none : list_any (bytes_eq (profile_key x)) (map profile_key kept) ≡ false =
    any_by_key by_profile.key by_profile.same by_profile.tell x kept ∙ earlier_differ are_one_operation turned kept x xs differ in
    let longer : (kept ++ x ∷ []) ++ xs ≡ kept ++ x ∷ xs = append_assoc kept (x ∷ []) xs in
    ap
    (λ (b : Bool). with_new bytes_eq (if b then map profile_key kept else map profile_key kept ++ profile_key x ∷ []) (map profile_key xs))
    none
    ∙ ap (λ (ks : List (List ℕ)). with_new bytes_eq ks (map profile_key xs)) (sym (map-append profile_key kept (x ∷ [])))
    ∙ keys_kept (kept ++ x ∷ []) xs (ap (λ (os : List Operation). all_differ are_one_operation os) longer ∙ differ)
    ∙ ap (λ (os : List Operation). map profile_key os) longer

-- ---- The first position of a member that passes a test.

past : {A : Type 0} (test : A → Bool) (xs : List A) → list_any test xs ≡ false → first_position test xs ≡ length xs
past test [] h = refl
past {A = A} test (x ∷ xs) h =
    let parts = or_parts (test x) (list_any test xs) h in
    ap (λ (b : Bool). if b then 0 else suc (first_position test xs)) parts.0 ∙ ap (λ (n : ℕ). suc n) (past test xs parts.1)

pub found_one : {A : Type 0} (test : A → Bool) (xs : List A) (n : ℕ) → Some n ≡ position test xs
    → (list_any test xs ≡ true) × (n ≡ first_position test xs) × (n < length xs)
found_one {A = A} test xs n is = go (nat_lt (position_or_len test xs) (length xs)) refl is
  where
    same : first_position test xs ≡ position_or_len test xs
    same = first_is_position test xs

    any : (b : Bool) → list_any test xs ≡ b → first_position test xs < length xs → b ≡ true
    any true told inside = refl
    any false told inside = let at : first_position test xs ≡ length xs = past test xs told in absurd (omega (arith, at, inside))

    go : (b : Bool) → nat_lt (position_or_len test xs) (length xs) ≡ b → Some n ≡ cond b (Some (position_or_len test xs)) None
        → (list_any test xs ≡ true) × (n ≡ first_position test xs) × (n < length xs)
    go true inside found =
        let at : n ≡ position_or_len test xs = same_Some _ _ found in
        let below : position_or_len test xs < length xs = ltb-true (position_or_len test xs) (length xs) inside in
        let first : first_position test xs < length xs = omega (arith, same, below) in
        (any (list_any test xs) refl first, at ∙ sym same, omega (arith, at, below))
    go false inside found = absurd (none-some n (sym found))

pub found_none : {A : Type 0} (test : A → Bool) (xs : List A) → None ≡ position test xs → list_any test xs ≡ false
found_none {A = A} test xs is = go (nat_lt (position_or_len test xs) (length xs)) refl is
  where
    same : first_position test xs ≡ position_or_len test xs
    same = first_is_position test xs

    any : (b : Bool) → list_any test xs ≡ b → length xs ≤ position_or_len test xs → b ≡ false
    any true told least = let at : first_position test xs < length xs =
        position_within test xs told in absurd (omega (arith, at, same, least))
    any false told least = refl

    go : (b : Bool) → nat_lt (position_or_len test xs) (length xs) ≡ b → None ≡ cond b (Some (position_or_len test xs)) None
        → list_any test xs ≡ false
    go true inside found = absurd (none-some (position_or_len test xs) found)
    go false inside found = any (list_any test xs) refl (ltb-false (position_or_len test xs) (length xs) inside)

-- ---- An operation by its profile.

-- the keys that the index has, and one that is looked for
pub record Kept (keys : List (Vec ℕ Global)) (operations : List Operation) : Type 0 where
  pub kept : items_of keys ≡ with_new bytes_eq [] (map profile_key operations)
  pub differ : all_differ are_one_operation operations ≡ true

keys_are : (keys : List (Vec ℕ Global)) (operations : List Operation) → Kept keys operations → items_of keys ≡ map profile_key operations
keys_are keys operations k = k.kept ∙ keys_kept [] operations k.differ

pub any_profile : (keys : List (Vec ℕ Global)) (operations : List Operation) (o : Operation) (items : List ℕ) → Kept keys operations
    → items ≡ profile_key o → list_any (has_items items) keys ≡ list_any (are_one_operation o) operations
any_profile keys operations o items k is =
    any_items keys items ∙ ap (λ (ks : List (List ℕ)). list_any (bytes_eq items) ks) (keys_are keys operations k)
    ∙ ap (λ (key : List ℕ). list_any (bytes_eq key) (map profile_key operations)) is
    ∙ any_by_key by_profile.key by_profile.same by_profile.tell o operations

pub first_profile : (keys : List (Vec ℕ Global)) (operations : List Operation) (o : Operation) (items : List ℕ) → Kept keys operations
    → items ≡ profile_key o → first_position (has_items items) keys ≡ first_position (are_one_operation o) operations
first_profile keys operations o items k is =
    first_items keys items ∙ ap (λ (ks : List (List ℕ)). first_position (bytes_eq items) ks) (keys_are keys operations k)
    ∙ ap (λ (key : List ℕ). first_position (bytes_eq key) (map profile_key operations)) is
    ∙ first_by_key by_profile.key by_profile.same by_profile.tell o operations

-- ---- What is looked for is the actual one.

alike : {A : Type 0} (test other : A → Bool) (xs : List A) → ((x : A) → test x ≡ other x)
    → (list_any test xs ≡ list_any other xs) × (first_position test xs ≡ first_position other xs)
alike {A = A} test other xs each =
    let one : test ≡ other = fun_ext each in
    (ap (λ (f : A → Bool). list_any f xs) one, ap (λ (f : A → Bool). first_position f xs) one)

-- the operation that is looked for over the sorts of the actualisation
abbrev pub wanted : Actualising → Operation → Form → Operation
wanted a o form = sought_operation (actualised_sort a) a.pairs.operation_pairs form o

is_wanted : (a : Actualising) (o : Operation) (form : Form) (u : Operation) → are_one_operation (wanted a o form) u ≡ is_actual a o form u
is_wanted a o form u = mutual_by_key by_profile.key by_profile.same by_profile.tell (wanted a o form) u

pub any_wanted : (a : Actualising) (o : Operation) (form : Form)
    → list_any (are_one_operation (wanted a o form)) a.actual.signature.operations ≡ has_actual a o form
any_wanted a o form =
    (alike (are_one_operation (wanted a o form)) (is_actual a o form) a.actual.signature.operations (is_wanted a o form)).0

pub first_wanted : (a : Actualising) (o : Operation) (form : Form)
    → first_position (are_one_operation (wanted a o form)) a.actual.signature.operations
    ≡ first_position (is_actual a o form) a.actual.signature.operations
first_wanted a o form =
    (alike (are_one_operation (wanted a o form)) (is_actual a o form) a.actual.signature.operations (is_wanted a o form)).1

-- what the code looked for is it
pub sought_is_wanted : (a : Actualising) (to_sort : ℕ → ℕ) (pairs : List WrittenPair) (form : Form) (o sought : Operation)
    → sought ≡ sought_operation to_sort pairs form o → a.pairs.operation_pairs ≡ pairs → ((n : ℕ) → to_sort n ≡ actualised_sort a n)
    → sought ≡ wanted a o form
sought_is_wanted a to_sort pairs form o sought is named each =
    let same : to_sort ≡ actualised_sort a = fun_ext each in
    is ∙ ap (λ (f : ℕ → ℕ). sought_operation f pairs form o) same
    ∙ ap (λ (ps : List WrittenPair). sought_operation (actualised_sort a) ps form o) (sym named)

-- one of the same form, or of the other form
pub in_same_form : (a : Actualising) (o : Operation) (n : ℕ)
    → list_any (are_one_operation (wanted a o o.form)) a.actual.signature.operations ≡ true
    → n ≡ first_position (are_one_operation (wanted a o o.form)) a.actual.signature.operations
    → (has_actual_in_some_form a o ≡ true) × (n ≡ actual_operation a o)
in_same_form a o n any at =
    let has : has_actual a o o.form ≡ true = sym (any_wanted a o o.form) ∙ any in (
      ap (λ (b : Bool). b || has_actual a o (other_form o.form)) has,
      at ∙ first_wanted a o o.form
          ∙ ap (λ (b : Bool). first_position (is_actual a o (if b then o.form else other_form o.form)) a.actual.signature.operations)
          (sym has),
    )

pub in_other_form : (a : Actualising) (o : Operation) (n : ℕ)
    → list_any (are_one_operation (wanted a o o.form)) a.actual.signature.operations ≡ false
    → list_any (are_one_operation (wanted a o (other_form o.form))) a.actual.signature.operations ≡ true
    → n ≡ first_position (are_one_operation (wanted a o (other_form o.form))) a.actual.signature.operations
    → (has_actual_in_some_form a o ≡ true) × (n ≡ actual_operation a o)
in_other_form a o n none any at =
    let lacks : has_actual a o o.form ≡ false = sym (any_wanted a o o.form) ∙ none in
    let has : has_actual a o (other_form o.form) ≡ true = sym (any_wanted a o (other_form o.form)) ∙ any in (
      ap (λ (b : Bool). b || has_actual a o (other_form o.form)) lacks ∙ has,
      at ∙ first_wanted a o (other_form o.form)
          ∙ ap (λ (b : Bool). first_position (is_actual a o (if b then o.form else other_form o.form)) a.actual.signature.operations)
          (sym lacks),
    )

pub in_no_form : (a : Actualising) (o : Operation)
    → list_any (are_one_operation (wanted a o o.form)) a.actual.signature.operations ≡ false
    → list_any (are_one_operation (wanted a o (other_form o.form))) a.actual.signature.operations ≡ false
    → has_actual_in_some_form a o ≡ false
in_no_form a o none neither_one =
    ap (λ (b : Bool). b || has_actual a o (other_form o.form)) (sym (any_wanted a o o.form) ∙ none)
    ∙ sym (any_wanted a o (other_form o.form)) ∙ neither_one

-- ---- What the code's index answers.

pub position_by_profile : (keys : List (Vec ℕ Global)) (operations : List Operation) (o : Operation) (items : List ℕ) (found : Option ℕ)
    → found ≡ position (has_items items) keys → Kept keys operations → items ≡ profile_key o
    → MatchOption found (list_any (are_one_operation o) operations ≡ false)
    (λ (n : ℕ). (list_any (are_one_operation o) operations ≡ true) × (n ≡ first_position (are_one_operation o) operations))
position_by_profile keys operations o items None is k key =
    sym (any_profile keys operations o items k key) ∙ found_none (has_items items) keys is
position_by_profile keys operations o items (Some n) is k key =
    let one = found_one (has_items items) keys n is in
    (sym (any_profile keys operations o items k key) ∙ one.0, one.1 ∙ first_profile keys operations o items k key)

-- one more operation came into the index
pub profiles_next : {R : Type 0} (f : R → Operation) (keys new : List (Vec ℕ Global)) (items : List ℕ) (xs : List R) (i : ℕ) (x : R)
    (start : List (List ℕ)) → i < length xs → x ≡ get_or xs i x → items ≡ profile_key (f x)
    → items_of new ≡ with_new bytes_eq (items_of keys) (items ∷ [])
    → with_new bytes_eq (items_of keys) (map profile_key (map f (drop i xs))) ≡ start
    → with_new bytes_eq (items_of new) (map profile_key (map f (drop (i + 1) xs))) ≡ start
profiles_next f keys new items xs i x start inside is key grown so_far =
    let rest : List (List ℕ) = map profile_key (map f (drop (i + 1) xs)) in
    ap (λ (ks : List (List ℕ)). with_new bytes_eq ks rest) grown
    ∙ ap (λ (k : List ℕ). with_new bytes_eq (with_new bytes_eq (items_of keys) (k ∷ [])) rest) key
    ∙ sym (ap (λ (os : List Operation). with_new bytes_eq (items_of keys) (map profile_key os)) (next_of f xs i x inside is)) ∙ so_far

-- a position that was found is small
pub position_small : (operations : List Operation) (o : Operation) (n big : ℕ)
    → (list_any (are_one_operation o) operations ≡ true) × (n ≡ first_position (are_one_operation o) operations)
    → length operations < big → n < big
position_small operations o n big found few =
    let inside : first_position (are_one_operation o) operations < length operations =
    position_within (are_one_operation o) operations found.0 in
    omega (arith, found.1, inside, few)

abbrev pub IsFoundAt : List Operation → Operation → ℕ → Type 0
IsFoundAt operations o n = (list_any (are_one_operation o) operations ≡ true) × (n ≡ first_position (are_one_operation o) operations)

-- what was looked for in the same form
pub same_form : (a : Actualising) (o sought : Operation) (n : ℕ) → sought ≡ wanted a o o.form
    → IsFoundAt a.actual.signature.operations sought n → (has_actual_in_some_form a o ≡ true) × (n ≡ actual_operation a o)
same_form a o sought n is found =
    let here = subst (λ (u : Operation). IsFoundAt a.actual.signature.operations u n) is found in in_same_form a o n here.0 here.1

abbrev pub turned_operation : Operation → Operation
turned_operation o =
    record { name = o.name; form = other_form o.form; arguments = o.arguments; result = o.result; origin = o.origin }

pub other_wanted : (a : Actualising) (o sought turned : Operation) → sought ≡ wanted a o o.form → turned ≡ turned_operation sought
    → turned ≡ wanted a o (other_form o.form)
other_wanted a o sought turned is made = made ∙ ap turned_operation is

-- and in the other form
pub other_form_found : (a : Actualising) (o sought turned : Operation) (n : ℕ) → sought ≡ wanted a o o.form
    → turned ≡ wanted a o (other_form o.form) → list_any (are_one_operation sought) a.actual.signature.operations ≡ false
    → IsFoundAt a.actual.signature.operations turned n → (has_actual_in_some_form a o ≡ true) × (n ≡ actual_operation a o)
other_form_found a o sought turned n is other none found =
    let here = subst (λ (u : Operation). IsFoundAt a.actual.signature.operations u n) other found in
    in_other_form a o n
    (subst (λ (u : Operation). list_any (are_one_operation u) a.actual.signature.operations ≡ false) is none) here.0 here.1

pub no_form_found : (a : Actualising) (o sought turned : Operation) → sought ≡ wanted a o o.form
    → turned ≡ wanted a o (other_form o.form) → list_any (are_one_operation sought) a.actual.signature.operations ≡ false
    → list_any (are_one_operation turned) a.actual.signature.operations ≡ false → has_actual_in_some_form a o ≡ false
no_form_found a o sought turned is other none neither_one =
    in_no_form a o (subst (λ (u : Operation). list_any (are_one_operation u) a.actual.signature.operations ≡ false) is none)
    (subst (λ (u : Operation). list_any (are_one_operation u) a.actual.signature.operations ≡ false) other neither_one)

-- the index of the operations of a list
pub profiles_there : {R : Type 0} (f : R → Operation) (index : ProfileIndex) (xs : List R) (plain target : List Operation)
    → map f xs ≡ plain → target ≡ plain → HasProfiles index (map f xs) → HasProfiles index target
profiles_there f index xs plain target are same has = subst (λ (os : List Operation). HasProfiles index os) (are ∙ sym same) has

-- the actual one of a shared operation
pub turned_actual : (a : Actualising) (told marked : Bool) (seen shared : CodeOp) (found : Option ℕ) → told ≡ marked → seen ≡ shared
    → IsActualOf told (operation_lacks_actual a (operation_of seen)) (actual_operation a (operation_of seen)) found
    → IsActualOf marked (operation_lacks_actual a (operation_of shared)) (actual_operation a (operation_of shared)) found
turned_actual a told marked seen shared found same is here =
    subst (λ (b : Bool). IsActualOf b (operation_lacks_actual a (operation_of shared)) (actual_operation a (operation_of shared)) found)
    same
    (subst (λ (o : CodeOp). IsActualOf told (operation_lacks_actual a (operation_of o)) (actual_operation a (operation_of o)) found) is
    here)
