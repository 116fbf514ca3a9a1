-- Names of the members that are marked, one after another.
use Rattle.std.proofs.Common.{◌≡◌, ℕ, suc, ◌+◌, ◌<◌, ◌≤◌, Bool, true, false, List, [], ◌∷◌, ◌++◌, map, length, take, get_or, ap, sym, ◌∙◌, subst, arith}
use Rattle.std.specs.Prelude.{◌^◌, if◌then◌else◌}
use Rattle.std.proofs.lemmas.List.{append-nil, map-append, length-map, length-append, length-take-le}
use Rattle.type_definitions.proofs.WalkLemmas.{so_far}
use Rattle.type_presentations.specs.NamesView.{HasNames}
use Rattle.type_presentations.specs.declared.names.NamePositions.{NamePositions}
use Rattle.type_definitions.specs.Presentation.{is_marked_number, presentation_limit}
use Rattle.type_definitions.specs.Actualisation.{marked_from}
use Rattle.type_definitions.proofs.FaultLemmas.{few_members}

marked_last : {A : Type 0} (marks : List ℕ) (k : ℕ) (xs : List A) (x : A)
    → marked_from marks k (xs ++ x ∷ []) ≡ marked_from marks k xs ++ (if is_marked_number marks (k + length xs) then x ∷ [] else [])
marked_last {A = A} marks k [] x =
    let at : k ≡ k + 0 = omega arith in ap (λ (n : ℕ). if is_marked_number marks n then x ∷ [] else []) at
marked_last {A = A} marks k (y ∷ ys) x = go (is_marked_number marks k) (marked_last marks (suc k) ys x)
  where
    last : ℕ → List A
    last n = if is_marked_number marks n then x ∷ [] else []

    at : suc k + length ys ≡ k + suc (length ys)
    at = omega arith

    go : (b : Bool) → marked_from marks (suc k) (ys ++ x ∷ []) ≡ marked_from marks (suc k) ys ++ last (suc k + length ys)
        → (if b then y ∷ marked_from marks (suc k) (ys ++ x ∷ []) else marked_from marks (suc k) (ys ++ x ∷ []))
        ≡ (if b then y ∷ marked_from marks (suc k) ys else marked_from marks (suc k) ys) ++ last (k + suc (length ys))
    go true rest =
        ap (λ (zs : List A). y ∷ zs) rest ∙ ap (λ (n : ℕ). y ∷ (marked_from marks (suc k) ys ++ last n)) at
    go false rest = rest ∙ ap (λ (n : ℕ). marked_from marks (suc k) ys ++ last n) at

-- those that have come, and the next one
marked_next : {A B : Type 0} (f : A → B) (marks : List ℕ) (xs : List A) (i : ℕ) (x : A) → i < length xs → x ≡ get_or xs i x
    → marked_from marks 0 (map f (take (i + 1) xs)) ≡ marked_from marks 0 (map f (take i xs))
    ++ (if is_marked_number marks i then f x ∷ [] else [])
marked_next {B = B} f marks xs i x within is =
    let many : i ≤ length xs = omega (arith, within) in
    let at : 0 + length (map f (take i xs)) ≡ i =
    omega (arith, length-map (take i xs) f, length-take-le i xs many) in
    ap (λ (ys : List B). marked_from marks 0 ys) (so_far f xs i x within is) ∙ marked_last marks 0 (map f (take i xs)) (f x)
    ∙ ap (λ (n : ℕ). marked_from marks 0 (map f (take i xs)) ++ (if is_marked_number marks n then f x ∷ [] else [])) at

pub name_next : {A B : Type 0} (f : A → B) (name_of : B → List ℕ) (marks : List ℕ) (xs : List A) (i : ℕ) (x : A) (name : List ℕ)
    → i < length xs → x ≡ get_or xs i x → is_marked_number marks i ≡ true → name ≡ name_of (f x)
    → map name_of (marked_from marks 0 (map f (take i xs))) ++ name ∷ [] ≡ map name_of (marked_from marks 0 (map f (take (i + 1) xs)))
name_next {B = B} f name_of marks xs i x name within is formal named =
    ap (λ (n : List ℕ). map name_of (marked_from marks 0 (map f (take i xs))) ++ n ∷ []) named
    ∙ sym (map-append name_of (marked_from marks 0 (map f (take i xs))) (f x ∷ []))
    ∙ ap (λ (b : Bool). map name_of (marked_from marks 0 (map f (take i xs)) ++ (if b then f x ∷ [] else []))) (sym formal)
    ∙ ap (λ (ys : List B). map name_of ys) (sym (marked_next f marks xs i x within is))

pub no_name_next : {A B : Type 0} (f : A → B) (name_of : B → List ℕ) (marks : List ℕ) (xs : List A) (i : ℕ) (x : A)
    → i < length xs → x ≡ get_or xs i x → is_marked_number marks i ≡ false
    → map name_of (marked_from marks 0 (map f (take i xs))) ≡ map name_of (marked_from marks 0 (map f (take (i + 1) xs)))
no_name_next {B = B} f name_of marks xs i x within is other =
    ap (λ (ys : List B). map name_of ys)
    (sym (append-nil (marked_from marks 0 (map f (take i xs))))
    ∙ ap (λ (b : Bool). marked_from marks 0 (map f (take i xs)) ++ (if b then f x ∷ [] else [])) (sym other)
    ∙ sym (marked_next f marks xs i x within is))

-- there are no more marked ones than members
pub marked_few : {A : Type 0} (marks : List ℕ) (k : ℕ) (xs : List A) → length (marked_from marks k xs) ≤ length xs
marked_few marks k [] = omega arith
marked_few {A = A} marks k (x ∷ xs) = go (is_marked_number marks k) (marked_few marks (suc k) xs)
  where
    go : (b : Bool) → length (marked_from marks (suc k) xs) ≤ length xs
        → length (if b then x ∷ marked_from marks (suc k) xs else marked_from marks (suc k) xs) ≤ suc (length xs)
    go true rest = omega (arith, rest)
    go false rest = omega (arith, rest)

-- ---- A name that is added, if it is that of something formal.

-- the names, and how many they are
abbrev pub AreNames : NamePositions → List (List ℕ) → ℕ → Type 0
AreNames positions names many = HasNames positions names × (length names ≡ many)

pub added_name : (new : NamePositions) (given : List (List ℕ)) (name : List ℕ) (is_formal : Bool) (count : ℕ) → is_formal ≡ true
    → length given ≡ count → HasNames new (given ++ name ∷ [])
    → AreNames new (if is_formal then given ++ name ∷ [] else given) (count + 1)
added_name new given name is_formal count formal many has =
    subst (λ (b : Bool). AreNames new (if b then given ++ name ∷ [] else given) (count + 1)) (sym formal)
    (has, length-append given (name ∷ []) ∙ ap (λ (n : ℕ). n + 1) many)

pub no_name : (old : NamePositions) (given : List (List ℕ)) (name : List ℕ) (is_formal : Bool) (count : ℕ) → is_formal ≡ false
    → length given ≡ count → HasNames old given → AreNames old (if is_formal then given ++ name ∷ [] else given) count
no_name old given name is_formal count other many has =
    subst (λ (b : Bool). AreNames old (if b then given ++ name ∷ [] else given) count) (sym other) (has, many)

-- the next member has come
pub names_next : {A B : Type 0} (f : A → B) (name_of : B → List ℕ) (marks : List ℕ) (xs : List A) (i : ℕ) (x : A) (name : List ℕ)
    (is_formal : Bool) (positions : NamePositions) (many : ℕ) → i < length xs → x ≡ get_or xs i x → is_formal ≡ is_marked_number marks i
    → name ≡ name_of (f x)
    → AreNames positions
    (if is_formal then map name_of (marked_from marks 0 (map f (take i xs))) ++ name ∷ []
    else map name_of (marked_from marks 0 (map f (take i xs)))) many
    → AreNames positions (map name_of (marked_from marks 0 (map f (take (i + 1) xs)))) many
names_next f name_of marks xs i x name is_formal positions many within is formal named before = go is_formal formal before
  where
    old : List (List ℕ)
    old = map name_of (marked_from marks 0 (map f (take i xs)))

    go : (b : Bool) → b ≡ is_marked_number marks i → AreNames positions (if b then old ++ name ∷ [] else old) many
        → AreNames positions (map name_of (marked_from marks 0 (map f (take (i + 1) xs)))) many
    go true told so =
        subst (λ (ns : List (List ℕ)). AreNames positions ns many)
        (name_next f name_of marks xs i x name within is (sym told) named) so
    go false told so =
        subst (λ (ns : List (List ℕ)). AreNames positions ns many)
        (no_name_next f name_of marks xs i x within is (sym told)) so

-- there are fewer than members
pub count_small : {A B : Type 0} (f : A → B) (name_of : B → List ℕ) (marks : List ℕ) (xs : List A) (i count big : ℕ) → i < length xs
    → length xs < big → length (map name_of (marked_from marks 0 (map f (take i xs)))) ≡ count → count < big
count_small f name_of marks xs i count big within few many =
    let one : length (map name_of (marked_from marks 0 (map f (take i xs)))) ≡ length (marked_from marks 0 (map f (take i xs))) =
    length-map (marked_from marks 0 (map f (take i xs))) name_of in
    let two : length (marked_from marks 0 (map f (take i xs))) ≤ length (map f (take i xs)) = marked_few marks 0 (map f (take i xs)) in
    let three : length (map f (take i xs)) ≡ length (take i xs) = length-map (take i xs) f in
    let inside : i ≤ length xs = omega (arith, within) in
    let four : length (take i xs) ≡ i = length-take-le i xs inside in
    omega (arith, one, two, three, four, within, few, many)

-- a number of a member
pub number_small : {A B : Type 0} (f : A → B) (xs : List A) (ys : List B) (i : ℕ) → map f xs ≡ ys → length ys ≤ presentation_limit
    → i < length xs → i < 2 ^ 32
number_small f xs ys i are few within =
    let many : length xs < 2 ^ 32 = few_members f xs ys are few in below_that i (length xs) (2 ^ 32) within many
  where
    below_that : (m n big : ℕ) → m < n → n < big → m < big
    below_that m n big one other = omega arith
