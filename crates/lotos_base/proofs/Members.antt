-- The members of a list by their index: of any list, of a mapped list, of two lists joined, and as code reads them.
use Rattle.std.proofs.Common.{◌≡◌, ℕ, zero, suc, ◌+◌, ◌<◌, ◌≤◌, List, [], ◌∷◌, ◌++◌, length, get_or, map, refl, ap, sym, ◌∙◌, subst, inl, inr, arith}
use Rattle.std.specs.Prelude.{Some, None, slice_get, ◌⊎◌}
use Rattle.std.specs.Option.{option_map}
use Rattle.std.proofs.lemmas.Grind.{get_or_default_zero}
use Rattle.std.proofs.lemmas.Option.{same_Some, none-some, slice_get-map, slice_get-get_or, slice_get_within, slice_get_read}
use Rattle.lotos_base.proofs.Numbers.{split_last}

-- a member within the list
pub member_at : {X : Type 0} (xs : List X) (i : ℕ) → i < length xs → (x : X) × (slice_get xs i ≡ Some x)
member_at [] i within = absurd (omega (arith, within))
member_at (x ∷ xs) zero within = (x, refl)
member_at (x ∷ xs) (suc i) within = member_at xs i (omega (arith, within))

-- a member as code reads it, and the same of a list behind a reference
pub read_member : {X : Type 0} (xs : List X) (i : ℕ) (x : X) → i < length xs → x ≡ get_or xs i x → slice_get xs i ≡ Some x
read_member xs i x within is = slice_get_read xs (length xs) i x refl within is

pub read_member_of : {X : Type 0} (xs ys : List X) (i : ℕ) (x : X) → xs ≡ ys → i < length xs → x ≡ get_or xs i x
    → slice_get ys i ≡ Some x
read_member_of {X = X} xs ys i x same within is = subst (λ (it : List X). slice_get it i ≡ Some x) same (read_member xs i x within is)

-- ---- Of a mapped list.

pub at_map : {X Y : Type 0} (f : X → Y) (xs : List X) (i : ℕ) (x : X) → slice_get xs i ≡ Some x → slice_get (map f xs) i ≡ Some (f x)
at_map f xs i x h = slice_get-map f xs i ∙ ap (option_map f) h

pub from_map : {X Y : Type 0} (f : X → Y) (xs : List X) (i : ℕ) (y : Y) → slice_get (map f xs) i ≡ Some y
    → (x : X) × (slice_get xs i ≡ Some x) × (f x ≡ y)
from_map f [] i y h = absurd (cc)
from_map f (x ∷ xs) zero y h = (x, refl, cc)
from_map f (x ∷ xs) (suc i) y h = from_map f xs i y h

pub past_map : {X Y : Type 0} (f : X → Y) (xs : List X) (i : ℕ) → slice_get xs i ≡ None → slice_get (map f xs) i ≡ None
past_map f xs i h = slice_get-map f xs i ∙ ap (option_map f) h

-- at any default
pub read_map : {X Y : Type 0} (f : X → Y) (xs : List X) (i : ℕ) (x : X) → get_or (map f xs) i (f x) ≡ f (get_or xs i x)
read_map f [] zero x = refl
read_map f [] (suc i) x = refl
read_map f (y ∷ xs) zero x = refl
read_map f (y ∷ xs) (suc i) x = read_map f xs i x

pub map_same : {X : Type 0} (f : X → X) (xs : List X) → ((i : ℕ) (x : X) → slice_get xs i ≡ Some x → f x ≡ x) → map f xs ≡ xs
map_same f [] each = refl
map_same {X = X} f (x ∷ xs) each =
    ap (λ (y : X). y ∷ map f xs) (each 0 x refl) ∙ ap (λ (ys : List X). x ∷ ys) (map_same f xs (λ i. each (suc i)))

-- ---- Of two lists joined, and of a list with one more at its end.

pub at_front : {X : Type 0} (xs ys : List X) (i : ℕ) (x : X) → slice_get xs i ≡ Some x → slice_get (xs ++ ys) i ≡ Some x
at_front [] ys i x at = absurd (cc at)
at_front (z ∷ xs) ys zero x at = at
at_front (z ∷ xs) ys (suc i) x at = at_front xs ys i x at

pub from_front : {X : Type 0} (xs ys : List X) (i : ℕ) (x : X) → i < length xs → slice_get (xs ++ ys) i ≡ Some x
    → slice_get xs i ≡ Some x
from_front [] ys i x within at = absurd (omega (arith, within))
from_front (z ∷ xs) ys zero x within at = at
from_front (z ∷ xs) ys (suc i) x within at = from_front xs ys i x (omega (arith, within)) at

pub at_end : {X : Type 0} (kept : List X) (x : X) (xs : List X) → slice_get (kept ++ x ∷ xs) (length kept) ≡ Some x
at_end [] x xs = refl
at_end (k ∷ ks) x xs = at_end ks x xs

pub before_or_last : {X : Type 0} (xs : List X) (y : X) (i : ℕ) (x : X) → slice_get (xs ++ y ∷ []) i ≡ Some x
    → (slice_get xs i ≡ Some x) ⊎ (y ≡ x)
before_or_last [] y zero x found = inr (same_Some _ _ found)
before_or_last [] y (suc i) x found = absurd (none-some x found)
before_or_last (z ∷ xs) y zero x found = inl found
before_or_last (z ∷ xs) y (suc i) x found = before_or_last xs y i x found

-- a list whose members stand at the same places of another one
pub as_long : {X : Type 0} (xs ys : List X) → ((i : ℕ) (x : X) → slice_get xs i ≡ Some x → slice_get ys i ≡ Some x)
    → length xs ≤ length ys
as_long [] ys stays = omega arith
as_long (x ∷ xs) ys stays =
    let n : ℕ = length xs in
    let last : slice_get (x ∷ xs) n ≡ Some (get_or (x ∷ xs) n x) = slice_get-get_or (x ∷ xs) n x (omega arith) in
    let there : n < length ys = slice_get_within ys n (get_or (x ∷ xs) n x) (stays n (get_or (x ∷ xs) n x) last) in
    omega (arith, there)

-- ---- Numbers as code reads them.

pub read_at : (xs : List ℕ) (i : ℕ) → i < length xs → get_or xs i 0 ≡ get_or xs i (get_or xs i 0)
read_at xs i within = sym (get_or_default_zero xs i (get_or xs i 0) within)

pub get_at : (xs : List ℕ) (i x m : ℕ) → x ≡ get_or xs i x → slice_get xs i ≡ Some m → x ≡ m
get_at [] i x m is at = cc
get_at (y ∷ ys) zero x m is at = is ∙ same_Some y m at
get_at (y ∷ ys) (suc i) x m is at = get_at ys i x m is at

-- what holds of the numbers so far, and of this one
pub numbers_more : (P : ℕ → Type 0) (xs : List ℕ) (i x : ℕ) → x ≡ get_or xs i x
    → ((k m : ℕ) → k < i → slice_get xs k ≡ Some m → P m) → P x
    → (k m : ℕ) → k < i + 1 → slice_get xs k ≡ Some m → P m
numbers_more P xs i x is so_far one k m before at = go (split_last k i before)
  where
    go : (k < i) ⊎ (k ≡ i) → P m
    go (inl less) = so_far k m less at
    go (inr same) = subst P (get_at xs i x m is (ap (λ (j : ℕ). slice_get xs j) (sym same) ∙ at)) one
