-- Members of a list, found by their keys.
use Rattle.std.proofs.Common.{◌≡◌, ℕ, zero, suc, Bool, true, false, List, [], ◌∷◌, ◌++◌, map, length, refl, ap, sym, ◌∙◌}
use Rattle.std.specs.Prelude.{◌||◌, ◌&&◌, ◌↔◌, not, if◌then◌else◌}
use Rattle.std.specs.List.{list_any}
use Rattle.std.specs.Str.{bytes_eq}
use Rattle.std.proofs.lemmas.List.{map-append}
use Rattle.std.proofs.lemmas.List.Folds.{list_any-append}
use Rattle.std.proofs.lemmas.Slice.Eq.{bytes_eq-Decides}
use Rattle.lotos_base.proofs.Truth.{same_truth}
use Rattle.type_definitions.specs.Presentation.{with_new, first_position}

pub same_by_key : {A : Type 0} (key : A → List ℕ) (same : A → A → Bool)
    → ((x y : A) → (key x ≡ key y) ↔ (same x y ≡ true)) → (x y : A) → bytes_eq (key x) (key y) ≡ same x y
same_by_key key same tell x y =
    same_truth (bytes_eq (key x) (key y)) (same x y) (λ h. (tell x y).0 ((bytes_eq-Decides (key x) (key y)).0 h))
    (λ h. (bytes_eq-Decides (key x) (key y)).1 ((tell x y).1 h))

-- keys that are equal either way round
pub mutual_by_key : {A : Type 0} (key : A → List ℕ) (same : A → A → Bool)
    → ((x y : A) → (key x ≡ key y) ↔ (same x y ≡ true)) → (x y : A) → same x y ≡ same y x
mutual_by_key key same tell x y =
    same_truth (same x y) (same y x) (λ h. (tell y x).0 (sym ((tell x y).1 h))) (λ h. (tell x y).0 (sym ((tell y x).1 h)))

pub itself_by_key : {A : Type 0} (key : A → List ℕ) (same : A → A → Bool)
    → ((x y : A) → (key x ≡ key y) ↔ (same x y ≡ true)) → (x : A) → same x x ≡ true
itself_by_key key same tell x = (tell x x).0 refl

pub any_by_key : {A : Type 0} (key : A → List ℕ) (same : A → A → Bool)
    → ((x y : A) → (key x ≡ key y) ↔ (same x y ≡ true)) → (x : A) (ys : List A)
    → list_any (bytes_eq (key x)) (map key ys) ≡ list_any (same x) ys
any_by_key key same tell x [] = refl
any_by_key key same tell x (y ∷ ys) =
    let first : bytes_eq (key x) (key y) ≡ same x y = same_by_key key same tell x y in
    let rest : list_any (bytes_eq (key x)) (map key ys) ≡ list_any (same x) ys = any_by_key key same tell x ys in
    ap (λ (b : Bool). b || list_any (bytes_eq (key x)) (map key ys)) first ∙ ap (λ (b : Bool). same x y || b) rest

pub first_by_key : {A : Type 0} (key : A → List ℕ) (same : A → A → Bool)
    → ((x y : A) → (key x ≡ key y) ↔ (same x y ≡ true)) → (x : A) (ys : List A)
    → first_position (bytes_eq (key x)) (map key ys) ≡ first_position (same x) ys
first_by_key key same tell x [] = refl
first_by_key key same tell x (y ∷ ys) =
    let first : bytes_eq (key x) (key y) ≡ same x y = same_by_key key same tell x y in
    let rest : first_position (bytes_eq (key x)) (map key ys) ≡ first_position (same x) ys = first_by_key key same tell x ys in
    ap (λ (b : Bool). if b then 0 else suc (first_position (bytes_eq (key x)) (map key ys))) first
    ∙ ap (λ (n : ℕ). if same x y then 0 else suc n) rest

-- the keys of a list to which one more came
pub added_by_key : {A : Type 0} (key : A → List ℕ) (same : A → A → Bool)
    → ((x y : A) → (key x ≡ key y) ↔ (same x y ≡ true)) → (xs : List A) (x : A)
    → map key (with_new same xs (x ∷ [])) ≡ with_new bytes_eq (map key xs) (key x ∷ [])
added_by_key {A = A} key same tell xs x =
    go (list_any (same x) xs) ∙ ap choice (sym (any_by_key key same tell x xs))
  where
    choice : Bool → List (List ℕ)
    choice b = if b then map key xs else map key xs ++ key x ∷ []

    go : (b : Bool) → map key (if b then xs else xs ++ x ∷ []) ≡ choice b
    go true = refl
    go false = map-append key xs (x ∷ [])

-- ---- Keys, each once.

or_twice : (a b c : Bool) → ((a || (b || false)) || c) ≡ (a || (b || c))
or_twice true b c = refl
or_twice false true c = refl
or_twice false false c = refl

absorbed : (a b c : Bool) → (b ≡ true → a ≡ true) → (a || c) ≡ (a || (b || c))
absorbed true b c h = refl
absorbed false true c h = let e : false ≡ true = h refl in cc
absorbed false false c h = refl

pub any_kept : (key : List ℕ) (kept xs : List (List ℕ))
    → list_any (bytes_eq key) (with_new bytes_eq kept xs) ≡ (list_any (bytes_eq key) kept || list_any (bytes_eq key) xs)
any_kept key kept [] = none (list_any (bytes_eq key) kept)
  where
    none : (a : Bool) → a ≡ (a || false)
    none true = refl
    none false = refl
any_kept key kept (x ∷ xs) =
    go (list_any (bytes_eq x) kept) refl
    (λ (more : List (List ℕ)). any_kept key more xs)
  where
    there : list_any (bytes_eq x) kept ≡ true → bytes_eq key x ≡ true → list_any (bytes_eq key) kept ≡ true
    there h is =
        let one : key ≡ x = (bytes_eq-Decides key x).0 is in
        ap (λ (k : List ℕ). list_any (bytes_eq k) kept) one ∙ h

    go : (b : Bool) → list_any (bytes_eq x) kept ≡ b
        → ((more : List (List ℕ)) → list_any (bytes_eq key) (with_new bytes_eq more xs)
        ≡ (list_any (bytes_eq key) more || list_any (bytes_eq key) xs))
        → list_any (bytes_eq key) (with_new bytes_eq (if b then kept else kept ++ x ∷ []) xs)
        ≡ (list_any (bytes_eq key) kept || (bytes_eq key x || list_any (bytes_eq key) xs))
    go true is rest =
        rest kept ∙ absorbed (list_any (bytes_eq key) kept) (bytes_eq key x) (list_any (bytes_eq key) xs) (there is)
    go false is rest =
        rest (kept ++ x ∷ [])
        ∙ ap (λ (b : Bool). b || list_any (bytes_eq key) xs) (list_any-append (bytes_eq key) kept (x ∷ []))
        ∙ or_twice (list_any (bytes_eq key) kept) (bytes_eq key x) (list_any (bytes_eq key) xs)
