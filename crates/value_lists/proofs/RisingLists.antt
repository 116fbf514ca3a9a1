-- Members of lists, and lists that rise by a relation: joined, mapped, filtered, and made piece by piece.
use Rattle.std.proofs.Common.{◌≡◌, ℕ, zero, suc, ◌<◌, List, [], ◌∷◌, ◌++◌, length, get_or, map, Bool, true, false, refl, ap, sym, ◌∙◌, subst, inl, inr, arith}
use Rattle.std.specs.Prelude.{◌⊎◌, ◌↔◌, if◌then◌else◌}
use Rattle.std.specs.List.{AllPairs, Contains, flat_map, filter}

-- The thing is one of the list.
abbrev pub Among : {X : Type 0} → X → List X → Type 0
Among x [] = ⊥
Among x (y ∷ ys) = (y ≡ x) ⊎ Among x ys

-- Each member is so related to each one behind it.
abbrev pub Rises : {X : Type 0} → (X → X → Type 0) → List X → Type 0
Rises R [] = Unit {0}
Rises {X = X} R (x ∷ xs) = ((y : X) → Among y xs → R x y) × Rises R xs

-- ---- Two lists joined

pub among_left : {X : Type 0} (xs ys : List X) (x : X) → Among x xs → Among x (xs ++ ys)
among_left [] ys x h = absurd h
among_left (z ∷ xs) ys x (inl e) = inl e
among_left (z ∷ xs) ys x (inr h) = inr (among_left xs ys x h)

pub among_right : {X : Type 0} (xs ys : List X) (x : X) → Among x ys → Among x (xs ++ ys)
among_right [] ys x h = h
among_right (z ∷ xs) ys x h = inr (among_right xs ys x h)

pub among_either : {X : Type 0} (xs ys : List X) (x : X) → Among x (xs ++ ys) → Among x xs ⊎ Among x ys
among_either [] ys x h = inr h
among_either (z ∷ xs) ys x (inl e) = inl (inl e)
among_either (z ∷ xs) ys x (inr h) = go (among_either xs ys x h)
  where
    go : Among x xs ⊎ Among x ys → Among x (z ∷ xs) ⊎ Among x ys
    go (inl k) = inl (inr k)
    go (inr k) = inr k

pub rises_joined : {X : Type 0} (R : X → X → Type 0) (xs ys : List X) → Rises R xs → Rises R ys
    → ((x y : X) → Among x xs → Among y ys → R x y) → Rises R (xs ++ ys)
rises_joined R [] ys rise rises across = rises
rises_joined {X = X} R (x ∷ xs) ys rise rises across = (first, rises_joined R xs ys rise.1 rises (λ y z h k. across y z (inr h) k))
  where
    go : (y : X) → Among y xs ⊎ Among y ys → R x y
    go y (inl h) = rise.0 y h
    go y (inr h) = across x y (inl refl) h

    first : (y : X) → Among y (xs ++ ys) → R x y
    first y h = go y (among_either xs ys y h)

-- ---- Lists made piece by piece

pub among_piece : {X Y : Type 0} (f : X → List Y) (xs : List X) (x : X) (y : Y) → Among x xs → Among y (f x)
    → Among y (flat_map f xs)
among_piece f [] x y h k = absurd h
among_piece f (z ∷ xs) x y (inl e) k = among_left (f z) (flat_map f xs) y (subst (λ w. Among y (f w)) (sym e) k)
among_piece f (z ∷ xs) x y (inr h) k = among_right (f z) (flat_map f xs) y (among_piece f xs x y h k)

pub from_piece : {X Y : Type 0} (f : X → List Y) (xs : List X) (y : Y) → Among y (flat_map f xs)
    → (x : X) × Among x xs × Among y (f x)
from_piece f [] y h = absurd h
from_piece {X = X} f (z ∷ xs) y h = go (λ k. from_piece f xs y k) (among_either (f z) (flat_map f xs) y h)
  where
    go : (Among y (flat_map f xs) → (x : X) × Among x xs × Among y (f x)) → Among y (f z) ⊎ Among y (flat_map f xs)
        → (x : X) × Among x (z ∷ xs) × Among y (f x)
    go behind (inl k) = (z, inl refl, k)
    go behind (inr k) = let rest = behind k in (rest.0, inr rest.1, rest.2)

pub rises_pieces : {X Y : Type 0} (S : X → X → Type 0) (R : Y → Y → Type 0) (f : X → List Y) (xs : List X) → Rises S xs
    → ((x : X) → Among x xs → Rises R (f x))
    → ((x z : X) (y w : Y) → Among x xs → Among z xs → S x z → Among y (f x) → Among w (f z) → R y w)
    → Rises R (flat_map f xs)
rises_pieces S R f [] rise each across = tt
rises_pieces S R f (x ∷ xs) rise each across =
    rises_joined R (f x) (flat_map f xs) (each x (inl refl))
    (rises_pieces S R f xs rise.1 (λ z h. each z (inr h)) (λ z u y w h k. across z u y w (inr h) (inr k)))
    (λ y w h k.
    let piece = from_piece f xs w k in
    across x piece.0 y w (inl refl) (inr piece.1) (rise.0 piece.0 piece.1) h piece.2)

-- ---- Mapped and filtered lists

pub among_map : {X Y : Type 0} (f : X → Y) (xs : List X) (x : X) → Among x xs → Among (f x) (map f xs)
among_map f [] x h = absurd h
among_map f (z ∷ xs) x (inl e) = inl (ap f e)
among_map f (z ∷ xs) x (inr h) = inr (among_map f xs x h)

pub from_map : {X Y : Type 0} (f : X → Y) (xs : List X) (y : Y) → Among y (map f xs) → (x : X) × Among x xs × (f x ≡ y)
from_map f [] y h = absurd h
from_map f (z ∷ xs) y (inl e) = (z, inl refl, e)
from_map f (z ∷ xs) y (inr h) = let rest = from_map f xs y h in (rest.0, inr rest.1, rest.2)

pub rises_map : {X Y : Type 0} (R : Y → Y → Type 0) (f : X → Y) (xs : List X) → Rises (λ x z. R (f x) (f z)) xs → Rises R (map f xs)
rises_map R f [] rise = tt
rises_map R f (x ∷ xs) rise = (
  λ y h. let there = from_map f xs y h in subst (λ w. R (f x) w) there.2 (rise.0 there.0 there.1),
  rises_map R f xs rise.1,
)

pub among_filter : {X : Type 0} (p : X → Bool) (xs : List X) (x : X) → Among x xs → p x ≡ true → Among x (filter p xs)
among_filter p [] x h passes = absurd h
among_filter p (z ∷ xs) x h passes = go (λ k. among_filter p xs x k passes) (p z) refl h
  where
    go : (Among x xs → Among x (filter p xs)) → (b : Bool) → p z ≡ b → Among x (z ∷ xs)
        → Among x (if b then z ∷ filter p xs else filter p xs)
    go behind true is (inl e) = inl e
    go behind true is (inr k) = inr (behind k)
    go behind false is (inl e) = absurd (let clash : true ≡ false = sym passes ∙ ap p (sym e) ∙ is in cc)
    go behind false is (inr k) = behind k

pub from_filter : {X : Type 0} (p : X → Bool) (xs : List X) (x : X) → Among x (filter p xs) → Among x xs × (p x ≡ true)
from_filter p [] x h = absurd h
from_filter p (z ∷ xs) x h = go (λ k. from_filter p xs x k) (p z) refl h
  where
    go : (Among x (filter p xs) → Among x xs × (p x ≡ true)) → (b : Bool) → p z ≡ b
        → Among x (if b then z ∷ filter p xs else filter p xs) → Among x (z ∷ xs) × (p x ≡ true)
    go behind true is (inl e) = (inl e, ap p (sym e) ∙ is)
    go behind true is (inr k) = let rest = behind k in (inr rest.0, rest.1)
    go behind false is k = let rest = behind k in (inr rest.0, rest.1)

pub rises_filter : {X : Type 0} (R : X → X → Type 0) (p : X → Bool) (xs : List X) → Rises R xs → Rises R (filter p xs)
rises_filter R p [] rise = tt
rises_filter {X = X} R p (x ∷ xs) rise = go (rises_filter R p xs rise.1) (p x)
  where
    go : Rises R (filter p xs) → (b : Bool) → Rises R (if b then x ∷ filter p xs else filter p xs)
    go rest true = (λ y h. rise.0 y (from_filter p xs y h).0, rest)
    go rest false = rest

-- ---- The same by places

pub among_contains : {X : Type 0} (xs : List X) (x : X) → Among x xs → Contains xs x
among_contains [] x h = absurd h
among_contains (z ∷ xs) x (inl e) = (0, omega arith, e)
among_contains (z ∷ xs) x (inr h) =
    let rest = among_contains xs x h in
    let within = rest.1 in
    (suc rest.0, omega (arith, within), rest.2)

pub contains_among : {X : Type 0} (xs : List X) (x : X) → Contains xs x → Among x xs
contains_among [] x (k, within, at) = absurd (omega (arith, within))
contains_among (z ∷ xs) x (zero, within, at) = inl at
contains_among (z ∷ xs) x (suc k, within, at) = inr (contains_among xs x (k, omega (arith, within), at))

pub among_at : {X : Type 0} (xs : List X) (k : ℕ) (d : X) → k < length xs → Among (get_or xs k d) xs
among_at [] k d within = absurd (omega (arith, within))
among_at (x ∷ xs) zero d within = inl refl
among_at (x ∷ xs) (suc k) d within = inr (among_at xs k d (omega (arith, within)))

pub rises_pairs : {X : Type 0} (R : X → X → Type 0) (xs : List X) → Rises R xs → AllPairs R xs
rises_pairs R [] rise i j d before within = absurd (omega (arith, within))
rises_pairs R (x ∷ xs) rise zero zero d before within = absurd (omega (arith, before))
rises_pairs R (x ∷ xs) rise zero (suc j) d before within = rise.0 (get_or xs j d) (among_at xs j d (omega (arith, within)))
rises_pairs R (x ∷ xs) rise (suc i) zero d before within = absurd (omega (arith, before))
rises_pairs R (x ∷ xs) rise (suc i) (suc j) d before within =
    rises_pairs R xs rise.1 i j d (omega (arith, before)) (omega (arith, within))

pub pairs_rise : {X : Type 0} (R : X → X → Type 0) (xs : List X) → AllPairs R xs → Rises R xs
pairs_rise R [] pairs = tt
pairs_rise R (x ∷ xs) pairs = (
  λ y h.
      let there = among_contains xs y h in
      let within = there.1 in
      subst (λ w. R x w) there.2 (pairs 0 (suc there.0) y (omega arith) (omega (arith, within))),
  pairs_rise R xs (λ i j d before within. pairs (suc i) (suc j) d (omega (arith, before)) (omega (arith, within))),
)

-- ---- Lists that rise by a strict order are one where they have the same members

pub one_list : {X : Type 0} (R : X → X → Type 0) → ((x : X) → R x x → ⊥) → ((x y z : X) → R x y → R y z → R x z)
    → (xs ys : List X) → Rises R xs → Rises R ys → ((x : X) → Among x xs → Among x ys) → ((x : X) → Among x ys → Among x xs)
    → xs ≡ ys
one_list R strict chain [] [] rise rises there back = refl
one_list R strict chain [] (y ∷ ys) rise rises there back = absurd (back y (inl refl))
one_list R strict chain (x ∷ xs) [] rise rises there back = absurd (there x (inl refl))
one_list {X = X} R strict chain (x ∷ xs) (y ∷ ys) rise rises there back =
    ap (λ z. z ∷ xs) same ∙ ap (λ zs. y ∷ zs) (one_list R strict chain xs ys rise.1 rises.1 onward backward)
  where
    heads : Among x (y ∷ ys) → Among y (x ∷ xs) → x ≡ y
    heads (inl e) k = sym e
    heads (inr h) (inl e) = e
    heads (inr h) (inr k) = absurd (strict x (chain x y x (rise.0 y k) (rises.0 x h)))

    same : x ≡ y
    same = heads (there x (inl refl)) (back y (inl refl))

    onward : (z : X) → Among z xs → Among z ys
    onward z h = go (there z (inr h))
      where
        go : Among z (y ∷ ys) → Among z ys
        go (inl e) = absurd (strict x (subst (λ w. R x w) (sym (same ∙ e)) (rise.0 z h)))
        go (inr k) = k

    backward : (z : X) → Among z ys → Among z xs
    backward z h = go (back z (inr h))
      where
        go : Among z (x ∷ xs) → Among z xs
        go (inl e) = absurd (strict y (subst (λ w. R y w) (sym (sym same ∙ e)) (rises.0 z h)))
        go (inr k) = k
