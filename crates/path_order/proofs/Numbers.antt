-- Numbers in lists: which are there, one more at the end, no two alike.
use Rattle.std.proofs.Common.{◌≡◌, ℕ, zero, suc, ◌+◌, ◌<◌, ◌≤◌, List, [], ◌∷◌, ◌++◌, length, get_or, take, Bool, true, false, nat_eq, refl, ap, sym, ◌∙◌, subst, inl, inr, arith, ◌≢◌, set}
use Rattle.std.specs.Prelude.{Some, None, slice_get, ◌||◌, ◌⊎◌}
use Rattle.std.proofs.lemmas.List.{get_or-set_same, get_or-set_other, length-set}
use Rattle.std.proofs.lemmas.Option.{same_Some, slice_get_within}
use Rattle.std.proofs.lemmas.Bool.{eq-eqb, eqb-true}
use Rattle.path_order.specs.Contains.{contains, flag_at, IsOnce}
use Rattle.path_order.specs.Listing.{IsNumberIn}
use Rattle.path_order.specs.Steps.{HasCommon}

pub contains_in : (f : ℕ) (xs : List ℕ) → contains f xs ≡ true → IsNumberIn xs f
contains_in f [] e = cc
contains_in f (g ∷ xs) e = go (nat_eq g f) refl e (λ h. contains_in f xs h)
  where
    go : (b : Bool) → nat_eq g f ≡ b → (b || contains f xs) ≡ true → (contains f xs ≡ true → IsNumberIn xs f) → IsNumberIn (g ∷ xs) f
    go true same h later = (0, ap (λ (n : ℕ). Some n) (eqb-true g f same))
    go false differ h later = let at = later h in (suc at.0, at.1)

pub in_contains : (f : ℕ) (xs : List ℕ) (j : ℕ) → slice_get xs j ≡ Some f → contains f xs ≡ true
in_contains f [] j at = cc
in_contains f (g ∷ xs) zero at = ap (λ (b : Bool). b || contains f xs) (eq-eqb g f (same_Some g f at))
in_contains f (g ∷ xs) (suc j) at = go (nat_eq g f) (in_contains f xs j at)
  where
    go : (b : Bool) → contains f xs ≡ true → (b || contains f xs) ≡ true
    go true h = refl
    go false h = h

pub not_contains : (f : ℕ) (xs : List ℕ) → contains f xs ≡ false → ¬ IsNumberIn xs f
not_contains f xs e is = let yes : contains f xs ≡ true = in_contains f xs is.0 is.1 in let clash : true ≡ false = sym yes ∙ e in cc

pub contains_not : (f : ℕ) (xs : List ℕ) → ¬ IsNumberIn xs f → contains f xs ≡ false
contains_not f xs none = go (contains f xs) refl
  where
    go : (b : Bool) → contains f xs ≡ b → contains f xs ≡ false
    go true e = absurd (none (contains_in f xs e))
    go false e = e

-- one more at the end
pub contains-append : (f g : ℕ) (xs : List ℕ) → contains f (xs ++ g ∷ []) ≡ (contains f xs || nat_eq g f)
contains-append f g [] = go (nat_eq g f)
  where
    go : (b : Bool) → (b || false) ≡ b
    go true = refl
    go false = refl
contains-append f g (x ∷ xs) = go (nat_eq x f) (contains-append f g xs)
  where
    go : (b : Bool) → contains f (xs ++ g ∷ []) ≡ (contains f xs || nat_eq g f)
        → (b || contains f (xs ++ g ∷ [])) ≡ ((b || contains f xs) || nat_eq g f)
    go true h = refl
    go false h = h

-- where a member of two joined lists stands
pub joined_member : (xs ys : List ℕ) (i f : ℕ) → slice_get (xs ++ ys) i ≡ Some f
    → (slice_get xs i ≡ Some f) ⊎ ((j : ℕ) × (i ≡ length xs + j) × (slice_get ys j ≡ Some f))
joined_member [] ys i f at = inr (i, omega arith, at)
joined_member (x ∷ xs) ys zero f at = inl at
joined_member (x ∷ xs) ys (suc i) f at = go (joined_member xs ys i f at)
  where
    go : (slice_get xs i ≡ Some f) ⊎ ((j : ℕ) × (i ≡ length xs + j) × (slice_get ys j ≡ Some f))
        → (slice_get xs i ≡ Some f) ⊎ ((j : ℕ) × (suc i ≡ suc (length xs) + j) × (slice_get ys j ≡ Some f))
    go (inl first) = inl first
    go (inr second) = inr (second.0, omega (arith, second.1), second.2)

pub first_joined : (xs ys : List ℕ) (i f : ℕ) → slice_get xs i ≡ Some f → slice_get (xs ++ ys) i ≡ Some f
first_joined [] ys i f at = cc
first_joined (x ∷ xs) ys zero f at = at
first_joined (x ∷ xs) ys (suc i) f at = first_joined xs ys i f at

pub second_joined : (xs ys : List ℕ) (j f : ℕ) → slice_get ys j ≡ Some f → slice_get (xs ++ ys) (length xs + j) ≡ Some f
second_joined [] ys j f at = let same : j ≡ 0 + j = omega arith in ap (λ (i : ℕ). slice_get ys i) (sym same) ∙ at
second_joined (x ∷ xs) ys j f at =
    let same : suc (length xs) + j ≡ suc (length xs + j) = omega arith in
    ap (λ (i : ℕ). slice_get (x ∷ (xs ++ ys)) i) same ∙ second_joined xs ys j f at

pub in_joined : (xs ys : List ℕ) (f : ℕ) → IsNumberIn (xs ++ ys) f → IsNumberIn xs f ⊎ IsNumberIn ys f
in_joined xs ys f is = go (joined_member xs ys is.0 f is.1)
  where
    go : (slice_get xs is.0 ≡ Some f) ⊎ ((j : ℕ) × (is.0 ≡ length xs + j) × (slice_get ys j ≡ Some f)) → IsNumberIn xs f ⊎ IsNumberIn ys f
    go (inl first) = inl (is.0, first)
    go (inr second) = inr (second.0, second.2)

-- a number that is new keeps each one once
pub once_more : (xs : List ℕ) (g : ℕ) → IsOnce xs → contains g xs ≡ false → IsOnce (xs ++ g ∷ [])
once_more xs g once new i j f one two =
    go (joined_member xs (g ∷ []) i f one) (joined_member xs (g ∷ []) j f two)
  where
    only : (k h : ℕ) → slice_get (g ∷ []) k ≡ Some h → (k ≡ 0) × (g ≡ h)
    only zero h at = (refl, same_Some g h at)
    only (suc k) h at = cc

    clash : (k : ℕ) → slice_get xs k ≡ Some f → g ≡ f → ⊥
    clash k at same = not_contains g xs new (k, at ∙ ap (λ (n : ℕ). Some n) (sym same))

    go : (slice_get xs i ≡ Some f) ⊎ ((k : ℕ) × (i ≡ length xs + k) × (slice_get (g ∷ []) k ≡ Some f))
        → (slice_get xs j ≡ Some f) ⊎ ((k : ℕ) × (j ≡ length xs + k) × (slice_get (g ∷ []) k ≡ Some f)) → i ≡ j
    go (inl a) (inl b) = once i j f a b
    go (inl a) (inr b) = absurd (clash i a (only b.0 f b.2).1)
    go (inr a) (inl b) = absurd (clash j b (only a.0 f a.2).1)
    go (inr a) (inr b) =
        let one = (only a.0 f a.2).0 in let two = (only b.0 f b.2).0 in omega (arith, a.1, b.1, one, two)

-- ---- the first so many of a list

pub member_at : (xs : List ℕ) (i x : ℕ) → i < length xs → x ≡ get_or xs i x → slice_get xs i ≡ Some x
member_at [] i x within is = absurd (omega arith)
member_at (y ∷ ys) zero x within is = ap (λ (n : ℕ). Some n) (sym is)
member_at (y ∷ ys) (suc i) x within is = member_at ys i x (omega arith) is

pub taken_member : (xs : List ℕ) (n j f : ℕ) → slice_get (take n xs) j ≡ Some f → (j < n) × (slice_get xs j ≡ Some f)
taken_member xs zero j f at = let none : None ≡ Some f = at in cc
taken_member [] (suc n) j f at = let none : None ≡ Some f = at in cc
taken_member (x ∷ xs) (suc n) zero f at = (omega arith, at)
taken_member (x ∷ xs) (suc n) (suc j) f at = let later = taken_member xs n j f at in (omega (arith, later.0), later.1)

-- the next number is new where none is common to both lists, and none stands twice in the second one
pub next_is_new : (old found now : List ℕ) (i x : ℕ) → now ≡ old ++ take i found → i < length found → x ≡ get_or found i x
    → IsOnce found → (HasCommon old found → ⊥) → contains x now ≡ false
next_is_new old found now i x are within is once apart =
    ap (λ (ns : List ℕ). contains x ns) are ∙ contains_not x (old ++ take i found) (λ there. go (in_joined old (take i found) x there))
  where
    here : slice_get found i ≡ Some x
    here = member_at found i x within is

    go : IsNumberIn old x ⊎ IsNumberIn (take i found) x → ⊥
    go (inl before) = apart (x, before, (i, here))
    go (inr taken) =
        let at = taken_member found i taken.0 x taken.1 in
        let same = once taken.0 i x at.1 here in omega (arith, at.0, same)

-- nothing is common to both lists where no number of the second one is in the first one
pub none_common : (one other : List ℕ) (n : ℕ) → length other ≤ n
    → ((k f : ℕ) → k < n → slice_get other k ≡ Some f → contains f one ≡ false) → HasCommon one other → ⊥
none_common one other n end none common =
    let within : common.2.0 < length other = slice_get_within other common.2.0 common.0 common.2.1 in
    not_contains common.0 one (none common.2.0 common.0 (omega (arith, within, end)) common.2.1) common.1

-- ---- flags

pub flag_more : (flags : List Bool) (old : List ℕ) (op f : ℕ) → op < length flags → f < length (set flags op true)
    → ((g : ℕ) → g < length flags → flag_at g flags ≡ contains g old)
    → flag_at f (set flags op true) ≡ contains f (old ++ op ∷ [])
flag_more flags old op f within inside told = go (nat_eq op f) refl
  where
    long : length (set flags op true) ≡ length flags
    long = length-set flags op true

    both : (b : Bool) → (b || true) ≡ true
    both true = refl
    both false = refl

    none : (b : Bool) → (b || false) ≡ b
    none true = refl
    none false = refl

    go : (b : Bool) → nat_eq op f ≡ b → flag_at f (set flags op true) ≡ contains f (old ++ op ∷ [])
    go true same =
        let e : op ≡ f = eqb-true op f same in
        ap (λ (k : ℕ). flag_at k (set flags op true)) (sym e) ∙ get_or-set_same flags op true false within
        ∙ sym (both (contains f old)) ∙ ap (λ (b : Bool). contains f old || b) (sym same) ∙ sym (contains-append f op old)
    go false differ =
        let apart : f ≢ op = λ e. let clash : true ≡ false = sym (eq-eqb op f (sym e)) ∙ differ in cc in
        get_or-set_other flags op f true false apart ∙ told f (omega (arith, inside, long))
        ∙ sym (none (contains f old)) ∙ ap (λ (b : Bool). contains f old || b) (sym differ) ∙ sym (contains-append f op old)

pub below_more : (n : ℕ) (old : List ℕ) (op j f : ℕ) → ((k g : ℕ) → slice_get old k ≡ Some g → g < n) → op < n
    → slice_get (old ++ op ∷ []) j ≡ Some f → f < n
below_more n old op j f below within at = go (joined_member old (op ∷ []) j f at)
  where
    go : (slice_get old j ≡ Some f) ⊎ ((i : ℕ) × (j ≡ length old + i) × (slice_get (op ∷ []) i ≡ Some f)) → f < n
    go (inl first) = below j f first
    go (inr (zero, e, last)) = subst (λ (g : ℕ). g < n) (same_Some op f last) within
    go (inr (suc i, e, last)) = let no : None ≡ Some f = last in cc
