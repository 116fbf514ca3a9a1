-- One member that comes to a list that is found by its keys.
use Rattle.std.proofs.Common.{◌≡◌, ℕ, ◌≤◌, Bool, true, false, List, [], ◌∷◌, ◌++◌, map, length, refl, ap, sym, ◌∙◌, arith}
use Rattle.std.specs.Prelude.{◌&&◌, ◌↔◌, not, if◌then◌else◌}
use Rattle.std.specs.List.{list_any}
use Rattle.std.specs.Str.{bytes_eq}
use Rattle.std.proofs.lemmas.List.{map-append}
use Rattle.lotos_base.specs.Signature.{Sort, Operation}
use Rattle.sort_terms.specs.WellFormedTest.{all_differ, are_one_sort, are_one_operation}
use Rattle.type_definitions.specs.Presentation.{with_new, first_position, is_same_sort, is_same_operation}
use Rattle.type_presentations.specs.Keys.{name_key, sort_key, profile_key, operation_key}
use Rattle.type_presentations.specs.KeyLaws.{keys_tell}
use Rattle.type_presentations.proofs.KeptLemmas.{first_within, first_of_added, then_one, differ_and_one}
use Rattle.type_presentations.proofs.KeyedLemmas.{any_by_key, first_by_key, added_by_key, itself_by_key, mutual_by_key, any_kept}

-- keys that are equal exactly where members are the same
pub record Keying (A : Type 0) : Type 0 where
  pub key : A → List ℕ
  pub same : A → A → Bool
  pub tell : (x y : A) → (key x ≡ key y) ↔ (same x y ≡ true)

abbrev pub by_sort : Keying Sort
by_sort = record { key = sort_key; same = is_same_sort; tell = keys_tell.sorts }

abbrev pub by_name : Keying Sort
by_name = record { key = name_key; same = are_one_sort; tell = keys_tell.names }

abbrev pub by_operation : Keying Operation
by_operation = record { key = operation_key; same = is_same_operation; tell = keys_tell.operations }

abbrev pub by_profile : Keying Operation
by_profile = record { key = profile_key; same = are_one_operation; tell = keys_tell.profiles }

-- ---- A member by its key.

pub record Added {A : Type 0} (k : Keying A) (xs : List A) (x : A) (keys : List (List ℕ)) (number : ℕ) (is_new : Bool) : Type 0 where
  pub kept : keys ≡ map k.key (with_new k.same xs (x ∷ []))
  pub first : number ≡ first_position (k.same x) (with_new k.same xs (x ∷ []))
  pub within : number ≤ length xs
  pub grown : is_new ≡ true → with_new k.same xs (x ∷ []) ≡ xs ++ x ∷ []
  pub stays : is_new ≡ false → with_new k.same xs (x ∷ []) ≡ xs

none_there : (b c : Bool) → c ≡ not b → c ≡ true → b ≡ false
none_there true c e h = let f : true ≡ false = sym h ∙ e in cc
none_there false c e h = refl

one_there : (b c : Bool) → c ≡ not b → c ≡ false → b ≡ true
one_there true c e h = refl
one_there false c e h = let f : false ≡ true = sym h ∙ e in cc

pub added : {A : Type 0} (k : Keying A) (xs : List A) (x : A) (key : List ℕ) (old new : List (List ℕ)) (number : ℕ) (is_new : Bool)
    → key ≡ k.key x → old ≡ map k.key xs → new ≡ with_new bytes_eq old (key ∷ [])
    → number ≡ first_position (bytes_eq key) new → is_new ≡ not (list_any (bytes_eq key) old) → Added k xs x new number is_new
added {A = A} k xs x key old new number is_new this before after numbered told =
    let kept : new ≡ map k.key (with_new k.same xs (x ∷ [])) =
    after ∙ ap (λ (y : List ℕ). with_new bytes_eq old (y ∷ [])) this
    ∙ ap (λ (ys : List (List ℕ)). with_new bytes_eq ys (k.key x ∷ [])) before
    ∙ sym (added_by_key k.key k.same k.tell xs x) in
    let first : number ≡ first_position (k.same x) (with_new k.same xs (x ∷ [])) =
    numbered ∙ ap (λ (y : List ℕ). first_position (bytes_eq y) new) this
    ∙ ap (λ (ys : List (List ℕ)). first_position (bytes_eq (k.key x)) ys) kept
    ∙ first_by_key k.key k.same k.tell x (with_new k.same xs (x ∷ [])) in
    let at : number ≡ first_position (k.same x) xs =
    first ∙ first_of_added k.same xs x (itself_by_key k.key k.same k.tell x) in
    let bound : first_position (k.same x) xs ≤ length xs = first_within (k.same x) xs in
    let there : is_new ≡ not (list_any (k.same x) xs) =
    told ∙ ap (λ (y : List ℕ). not (list_any (bytes_eq y) old)) this
    ∙ ap (λ (ys : List (List ℕ)). not (list_any (bytes_eq (k.key x)) ys)) before
    ∙ ap not (any_by_key k.key k.same k.tell x xs) in record {
      kept = kept;
      first = first;
      within = omega (arith, at, bound);
      grown = λ h. ap (λ (b : Bool). if b then xs else xs ++ x ∷ []) (none_there (list_any (k.same x) xs) is_new there h);
      stays = λ h. ap (λ (b : Bool). if b then xs else xs ++ x ∷ []) (one_there (list_any (k.same x) xs) is_new there h);
    }

-- ---- A new member by the key that must not come twice.

pub record NameAdded {A : Type 0} (k : Keying A) (xs : List A) (x : A) (names : List (List ℕ)) (clashes : Bool) : Type 0 where
  pub kept : names ≡ with_new bytes_eq [] (map k.key (xs ++ x ∷ []))
  pub differ : all_differ k.same (xs ++ x ∷ []) ≡ (not clashes && all_differ k.same xs)

pub name_added : {A : Type 0} (k : Keying A) (xs : List A) (x : A) (old new : List (List ℕ)) (clashes : Bool)
    → old ≡ with_new bytes_eq [] (map k.key xs) → new ≡ with_new bytes_eq old (k.key x ∷ [])
    → clashes ≡ list_any (bytes_eq (k.key x)) old → NameAdded k xs x new clashes
name_added k xs x old new clashes before after told =
    let keys : map k.key (xs ++ x ∷ []) ≡ map k.key xs ++ k.key x ∷ [] = map-append k.key xs (x ∷ []) in
    let any : clashes ≡ list_any (k.same x) xs =
    told ∙ ap (λ (ys : List (List ℕ)). list_any (bytes_eq (k.key x)) ys) before
    ∙ any_kept (k.key x) [] (map k.key xs) ∙ any_by_key k.key k.same k.tell x xs in record {
      kept =
          after ∙ ap (λ (ys : List (List ℕ)). with_new bytes_eq ys (k.key x ∷ [])) before
          ∙ sym (then_one bytes_eq [] (map k.key xs) (k.key x))
          ∙ ap (λ (ys : List (List ℕ)). with_new bytes_eq [] ys) (sym keys);
      differ =
          differ_and_one k.same (mutual_by_key k.key k.same k.tell) xs x
          ∙ ap (λ (b : Bool). not b && all_differ k.same xs) (sym any);
    }

-- the test of a key that has been placed
pub there_before : (b c d : Bool) → d ≡ not b → c ≡ not d → c ≡ b
there_before true c d e f = f ∙ ap not e
there_before false c d e f = f ∙ ap not e

-- what a list that got one more stands for
pub mapped_push : {A B : Type 0} (old new : List A) (x : A) (f : A → B) (y : B) → new ≡ old ++ x ∷ [] → f x ≡ y
    → map f new ≡ map f old ++ y ∷ []
mapped_push {A = A} {B = B} old new x f y e h =
    ap (λ (xs : List A). map f xs) e ∙ map-append f old (x ∷ []) ∙ ap (λ (z : B). map f old ++ z ∷ []) h
