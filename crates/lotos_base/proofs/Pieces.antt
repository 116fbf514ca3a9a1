-- Lists in pieces: a first member and the rest, a front and what is left, pieces joined.
use Rattle.std.proofs.Common.{◌≡◌, ℕ, ◌+◌, ◌-◌, ◌<◌, ◌≤◌, List, [], ◌∷◌, ◌++◌, length, get_or, take, drop, refl, ap, sym, ◌∙◌, arith, true, nat_eq, eqb-true}
use Rattle.std.proofs.Math.Seq.{take-length}
use Rattle.std.specs.List.{zip}
use Rattle.std.specs.Fmt.{decimal}
use Rattle.std.proofs.lemmas.List.{append_assoc, drop_more, length-drop, take_rest, nil_from_length, take_more}

-- ---- A first member and the rest.

pub same_heads : {X : Type 0} (x y : X) (xs ys : List X) → x ∷ xs ≡ y ∷ ys → x ≡ y
same_heads x y xs ys e = cc e

pub same_tails : {X : Type 0} (x y : X) (xs ys : List X) → x ∷ xs ≡ y ∷ ys → xs ≡ ys
same_tails x y xs ys e = cc e

pub one_less : {X : Type 0} (x : X) (before after : List X) (many fewer : ℕ) → before ≡ x ∷ after → fewer + 1 ≡ many
    → many ≡ length before → fewer ≡ length after
one_less x before after many fewer is gone counted = let short = ap length is in omega arith

pub zip-nil : (xs ys : List ℕ) → ys ≡ [] → zip xs ys ≡ []
zip-nil [] ys e = refl
zip-nil (x ∷ xs) [] e = refl
zip-nil (x ∷ xs) (y ∷ ys) e = absurd (cc e)

-- a list without members, as a test of its length tells
pub no_member_by_length : {X : Type 0} (xs : List X) → nat_eq (length xs) 0 ≡ true → xs ≡ []
no_member_by_length xs is = nil_from_length xs (eqb-true (length xs) 0 is)

-- ---- A front and what is left.

-- what is left from a place on: the member there, as code reads it, and what is left after it
pub next_member : {X : Type 0} (xs : List X) (i : ℕ) (x : X) → i < length xs → x ≡ get_or xs i x → drop i xs ≡ x ∷ drop (i + 1) xs
next_member xs i x within is = drop_more xs i x within ∙ ap (λ y. y ∷ drop (i + 1) xs) (sym is)

-- one member more in front
pub take_member : {X : Type 0} (xs : List X) (i : ℕ) (x : X) → i < length xs → x ≡ get_or xs i x → take (i + 1) xs ≡ take i xs ++ x ∷ []
take_member {X = X} xs i x within is = take_more xs i x within ∙ ap (λ (y : X). take i xs ++ y ∷ []) (sym is)

pub take_whole : {X : Type 0} (xs : List X) (n : ℕ) → n ≡ length xs → take n xs ≡ xs
take_whole xs n is = ap (λ (m : ℕ). take m xs) is ∙ take-length xs

-- a piece of what is left is within the list
pub within_more : (xs : List ℕ) (count more : ℕ) → count ≤ length xs → more ≤ length (take (length xs - count) (drop count xs))
    → count + more ≤ length xs
within_more xs count more within piece = omega (arith, ap length (take_rest xs count), length-drop count xs)

-- ---- Pieces joined, as code writes one behind the other.

pub two_pieces : (start mid end first second : List ℕ) → mid ≡ start ++ first → end ≡ mid ++ second
    → end ≡ start ++ (first ++ second)
two_pieces start mid end first second m e = e ∙ (ap (λ (xs : List ℕ). xs ++ second) m ∙ append_assoc start first second)

pub three_pieces : (start one two end first second third : List ℕ) → one ≡ start ++ first → two ≡ one ++ second → end ≡ two ++ third
    → end ≡ start ++ (first ++ second ++ third)
three_pieces start one two end first second third e f g =
    two_pieces start two end (first ++ second) third (two_pieces start one two first second e f) g

pub in_three : (before first second third one two after : List ℕ) → one ≡ before ++ first → two ≡ one ++ second → after ≡ two ++ third
    → after ≡ before ++ (first ++ (second ++ third))
in_three before first second third one two after p q r =
    two_pieces before one after first (second ++ third) p (two_pieces one two after second third q r)

pub decimal_same : (s t : List ℕ) (n m : ℕ) → t ≡ s ++ decimal n → n ≡ m → t ≡ s ++ decimal m
decimal_same s t n m is same = is ∙ ap (λ (k : ℕ). s ++ decimal k) same
