-- Lists that are compared member by member.
use Rattle.std.proofs.Common.{◌≡◌, ◌↔◌, IsTrue, ℕ, zero, suc, ◌+◌, ◌<◌, List, [], ◌∷◌, ◌++◌, Bool, ◌&&◌, nat_eq, length, get_or, take, map, refl, ap, sym, ◌∙◌, arith}
use Rattle.std.proofs.lemmas.Bool.Decides.{Decides-eqb, Decides-and, Decides-like}
use Rattle.std.specs.Bool.{Decides}
use Rattle.std.specs.Cmp.Lexicographic.{pointwise, pointwise_decides}
use Rattle.lotos_base.proofs.Pieces.{take_member}

-- A list of what was made of a list.
pub map_twice : {X Y Z : Type 0} (f : Y → Z) (g : X → Y) (xs : List X) → map f (map g xs) ≡ map (λ x. f (g x)) xs
map_twice f g [] = refl
map_twice f g (x ∷ xs) = ap (λ rest. f (g x) ∷ rest) (map_twice f g xs)

map_last : {X Y : Type 0} (f : X → Y) (xs : List X) (x : X) → map f (xs ++ x ∷ []) ≡ map f xs ++ f x ∷ []
map_last f [] x = refl
map_last f (y ∷ xs) x = ap (λ rest. f y ∷ rest) (map_last f xs x)

module _ {X Y Z : Type 0} (f : X → Z) (g : Y → Z) where
  pub same_length : (xs : List X) (ys : List Y) → map f xs ≡ map g ys → length xs ≡ length ys
  same_length [] [] e = refl
  same_length [] (y ∷ ys) e = cc
  same_length (x ∷ xs) [] e = cc
  same_length (x ∷ xs) (y ∷ ys) e =
      let rest : map f xs ≡ map g ys = cc in
      ap (λ (n : ℕ). suc n) (same_length xs ys rest)

  pub same_at : (xs : List X) (ys : List Y) (i : ℕ) (x : X) (y : Y) → i < length xs → x ≡ get_or xs i x → y ≡ get_or ys i y
      → map f xs ≡ map g ys → f x ≡ g y
  same_at [] ys i x y h ex ey e = absurd (omega arith)
  same_at (x' ∷ xs) [] i x y h ex ey e = cc
  same_at (x' ∷ xs) (y' ∷ ys) zero x y h ex ey e =
      let first : f x' ≡ g y' = cc in
      ap f ex ∙ first ∙ sym (ap g ey)
  same_at (x' ∷ xs) (y' ∷ ys) (suc i) x y h ex ey e =
      let rest : map f xs ≡ map g ys = cc in
      same_at xs ys i x y (omega arith) ex ey rest

  pub same_more : (xs : List X) (ys : List Y) (i : ℕ) (x : X) (y : Y) → i < length xs → i < length ys → x ≡ get_or xs i x
      → y ≡ get_or ys i y → map f (take i xs) ≡ map g (take i ys) → f x ≡ g y → map f (take (i + 1) xs) ≡ map g (take (i + 1) ys)
  same_more xs ys i x y hx hy ex ey e is =
      ap (map f) (take_member xs i x hx ex) ∙ map_last f (take i xs) x
      ∙ ap (λ (zs : List Z). zs ++ f x ∷ []) e ∙ ap (λ (z : Z). map g (take i ys) ++ z ∷ []) is
      ∙ sym (ap (map g) (take_member ys i y hy ey) ∙ map_last g (take i ys) y)

-- Two lists of what was made of lists, and a test that tells of the members.
pub both_maps : {X Y Z : Type 0} (f f' : Y → Z) (g : X → Y) (xs ys : List X) (r : Bool)
    → IsTrue r ↔ (map (λ x. f (g x)) xs ≡ map (λ x. f' (g x)) ys) → IsTrue r ↔ (map f (map g xs) ≡ map f' (map g ys))
both_maps f f' g xs ys r h = (
  (λ is. map_twice f g xs ∙ (h.0 is ∙ sym (map_twice f' g ys))),
  (λ e. h.1 (sym (map_twice f g xs) ∙ (e ∙ map_twice f' g ys))),
)

-- ---- Pairs of numbers

pair_same : (x y : ℕ × ℕ) → (x.0 ≡ y.0) × (x.1 ≡ y.1) → x ≡ y
pair_same x y h = λ i. (h.0 i, h.1 i)

pub same_pair : (x y : ℕ × ℕ) → Decides (nat_eq x.0 y.0 && nat_eq x.1 y.1) (x ≡ y)
same_pair x y =
    Decides-like (nat_eq x.0 y.0 && nat_eq x.1 y.1) (pair_same x y) (λ e. (ap (λ (p : ℕ × ℕ). p.0) e, ap (λ (p : ℕ × ℕ). p.1) e))
    (Decides-and (nat_eq x.0 y.0) (nat_eq x.1 y.1) (Decides-eqb x.0 y.0) (Decides-eqb x.1 y.1))

-- A test that compares two lists of pairs.
pub tells_pairs : (r : Bool) (one other xs ys : List (ℕ × ℕ))
    → r ≡ pointwise (λ (x y : ℕ × ℕ). nat_eq x.0 y.0 && nat_eq x.1 y.1) one other → one ≡ xs → other ≡ ys → IsTrue r ↔ (xs ≡ ys)
tells_pairs r one other xs ys told e f = (
  (λ is. sym e ∙ ((pointwise_decides same_pair one other).0 (sym told ∙ is) ∙ f)),
  (λ same. told ∙ (pointwise_decides same_pair one other).1 (e ∙ (same ∙ sym f))),
)
