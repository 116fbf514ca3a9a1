-- The positions of a name in a list of names: one name more, the last of them, all of them.
use Rattle.std.proofs.Common.{◌≡◌, ℕ, zero, suc, ◌+◌, ◌-◌, ◌<◌, Bool, true, false, List, [], ◌∷◌, ◌++◌, length, refl, ap, sym, ◌∙◌, subst, arith}
use Rattle.std.specs.Prelude.{Option, Some, None, slice_get, if◌then◌else◌}
use Rattle.std.specs.Str.{bytes_eq}
use Rattle.std.proofs.lemmas.Option.{none-some, same_Some}
use Rattle.std.proofs.lemmas.List.{append-nil}
use Rattle.lotos_base.proofs.Bytes.{same_bytes, bytes_same}
use Rattle.lotos_base.specs.Names.{folded}
use Rattle.sort_terms.specs.Positions.{positions_from, positions_of}

append_assoc : (xs ys zs : List ℕ) → xs ++ (ys ++ zs) ≡ (xs ++ ys) ++ zs
append_assoc [] ys zs = refl
append_assoc (x ∷ xs) ys zs = ap (λ rest. x ∷ rest) (append_assoc xs ys zs)

-- the number, if the test passes
abbrev pub one_if : Bool → ℕ → List ℕ
one_if test n = if test then n ∷ [] else []

positions_from-append : (first : ℕ) (key : List ℕ) (names : List (List ℕ)) (name : List ℕ)
    → positions_from first key (names ++ name ∷ [])
    ≡ positions_from first key names ++ one_if (bytes_eq key (folded name)) (first + length names)
positions_from-append first key [] name =
    let here : first ≡ first + 0 = omega arith in
    append-nil (one_if (bytes_eq key (folded name)) first) ∙ ap (λ (n : ℕ). one_if (bytes_eq key (folded name)) n) here
positions_from-append first key (x ∷ names) name =
    let further : suc first + length names ≡ first + suc (length names) = omega arith in
    ap (λ rest. one_if (bytes_eq key (folded x)) first ++ rest)
    (positions_from-append (suc first) key names name
    ∙ ap (λ (n : ℕ). positions_from (suc first) key names ++ one_if (bytes_eq key (folded name)) n) further)
    ∙ append_assoc (one_if (bytes_eq key (folded x)) first) (positions_from (suc first) key names)
    (one_if (bytes_eq key (folded name)) (first + suc (length names)))

-- one name more at the end
pub positions_of-append : (key : List ℕ) (names : List (List ℕ)) (name : List ℕ)
    → positions_of key (names ++ name ∷ []) ≡ positions_of key names ++ one_if (bytes_eq key (folded name)) (length names)
positions_of-append key names name =
    let from_nothing : 0 + length names ≡ length names = omega arith in
    positions_from-append 0 key names name
    ∙ ap (λ (n : ℕ). positions_of key names ++ one_if (bytes_eq key (folded name)) n) from_nothing

-- the last number of a list
abbrev later : ℕ → Option ℕ → Option ℕ
later x None = Some x
later x (Some y) = Some y

abbrev last_of : List ℕ → Option ℕ
last_of [] = None
last_of (x ∷ xs) = later x (last_of xs)

last_of-get : (xs : List ℕ) → last_of xs ≡ slice_get xs (length xs - 1)
last_of-get [] = refl
last_of-get (x ∷ []) = refl
last_of-get (x ∷ y ∷ ys) =
    let back : suc (length (y ∷ ys)) - 1 ≡ suc (length (y ∷ ys) - 1) = omega arith in
    ap (λ (o : Option ℕ). later x o) (last_of-get (y ∷ ys)) ∙ go (slice_get (y ∷ ys) (length (y ∷ ys) - 1)) (sym (last_of-get (y ∷ ys)))
    ∙ ap (λ (n : ℕ). slice_get (x ∷ y ∷ ys) n) (sym back)
  where
    some_last : (o : Option ℕ) → ¬ (later y o ≡ None)
    some_last None e = cc
    some_last (Some z) e = cc

    go : (o : Option ℕ) → o ≡ last_of (y ∷ ys) → later x o ≡ o
    go None e = absurd (some_last (last_of ys) (sym e))
    go (Some z) e = refl

-- there is no such name, or this is the position of the last one
abbrev pub IsLastAt : ℕ → List ℕ → List (List ℕ) → Option ℕ → Type 0
IsLastAt first key names None = (j : ℕ) (m : List ℕ) → slice_get names j ≡ Some m → ¬ (key ≡ folded m)
IsLastAt first key names (Some p) =
    (i : ℕ) × (m : List ℕ) × (p ≡ first + i) × (slice_get names i ≡ Some m) × (key ≡ folded m)
    × ((j : ℕ) (n : List ℕ) → i < j → slice_get names j ≡ Some n → ¬ (key ≡ folded n))

last_at : (first : ℕ) (key : List ℕ) (names : List (List ℕ)) → IsLastAt first key names (last_of (positions_from first key names))
last_at first key [] = λ j m found. absurd (none-some m found)
last_at first key (x ∷ names) =
    go (bytes_eq key (folded x)) refl (last_of (positions_from (suc first) key names)) (last_at (suc first) key names) refl
  where
    none_here : bytes_eq key (folded x) ≡ false → ¬ (key ≡ folded x)
    none_here differ same = let both : true ≡ false = sym (bytes_same key (folded x) same) ∙ differ in cc

    go : (b : Bool) → bytes_eq key (folded x) ≡ b → (o : Option ℕ) → IsLastAt (suc first) key names o
        → last_of (positions_from (suc first) key names) ≡ o
        → IsLastAt first key (x ∷ names) (last_of (one_if b first ++ positions_from (suc first) key names))
    go true is None none e =
        let nothing : (j : ℕ) (m : List ℕ) → 0 < j → slice_get (x ∷ names) j ≡ Some m → ¬ (key ≡ folded m) =
        λ j m. elim j as (λ j. 0 < j → slice_get (x ∷ names) j ≡ Some m → ¬ (key ≡ folded m))
        [ zero ↦ λ h. absurd (omega arith) | suc i ↦ λ h. none i m ] in
        let at : first ≡ first + 0 = omega arith in
        rw e (0, x, at, refl, same_bytes key (folded x) is, nothing)
    go false is None none e = rw e (λ j m.
        elim j as (λ j. slice_get (x ∷ names) j ≡ Some m → ¬ (key ≡ folded m))
        [ zero ↦ λ found same. none_here is (same ∙ ap folded (sym (same_Some _ _ found))) | suc i ↦ none i m ])
    go true is (Some p) last e = rw e (further last)
      where
        further : IsLastAt (suc first) key names (Some p) → IsLastAt first key (x ∷ names) (Some p)
        further l =
            let at : p ≡ first + suc l.0 = l.2 ∙ omega arith in (
              suc l.0,
              l.1,
              at,
              l.3,
              l.4,
              (λ j n. elim j as (λ j. suc l.0 < j → slice_get (x ∷ names) j ≡ Some n → ¬ (key ≡ folded n))
                  [ zero ↦ λ h. absurd (omega arith) | suc i ↦ λ h. l.5 i n (omega arith) ]),
            )
    go false is (Some p) last e = rw e (further last)
      where
        further : IsLastAt (suc first) key names (Some p) → IsLastAt first key (x ∷ names) (Some p)
        further l =
            let at : p ≡ first + suc l.0 = l.2 ∙ omega arith in (
              suc l.0,
              l.1,
              at,
              l.3,
              l.4,
              (λ j n. elim j as (λ j. suc l.0 < j → slice_get (x ∷ names) j ≡ Some n → ¬ (key ≡ folded n))
                  [ zero ↦ λ h. absurd (omega arith) | suc i ↦ λ h. l.5 i n (omega arith) ]),
            )

-- what the last of the positions says
pub last_position : (key : List ℕ) (names : List (List ℕ)) (o : Option ℕ)
    → o ≡ slice_get (positions_of key names) (length (positions_of key names) - 1) → IsLastAt 0 key names o
last_position key names o e =
    subst (λ (p : Option ℕ). IsLastAt 0 key names p) (last_of-get (positions_of key names) ∙ sym e) (last_at 0 key names)

-- the same, where the numbers are those of the positions
pub last_at_place : (key : List ℕ) (names : List (List ℕ)) (numbers : List ℕ) (o : Option ℕ)
    → numbers ≡ positions_of key names → o ≡ slice_get numbers (length numbers - 1) → IsLastAt 0 key names o
last_at_place key names numbers o are e =
    last_position key names o (e ∙ ap (λ (ps : List ℕ). slice_get ps (length ps - 1)) are)
