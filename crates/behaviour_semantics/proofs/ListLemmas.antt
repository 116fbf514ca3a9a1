-- Members of lists, facts of each member, and lists of moves whose shapes rise.
use Rattle.std.proofs.Common.{◌≡◌, inl, inr, ℕ, zero, suc, slice_get, List, [], ◌∷◌, ◌++◌, filter_map, Option, None, Some, option_map, refl, ap, ◌∙◌, subst}
use Rattle.std.specs.List.{cons_option}
use Rattle.behaviour_semantics.specs.WellFormed.{Every}
use Rattle.behaviour_semantics.proofs.OptionLemmas.{some_value}
use Rattle.behaviour_semantics.specs.Listing.{ShapedMove, one_behind}
use Rattle.behaviour_semantics.specs.Listing.{IsAmong}

-- A fact of each member of a list, if there is a list.
abbrev pub EachOf : {X : Type 0} → (X → Type 0) → Option (List X) → Type 0
EachOf P None = Unit {0}
EachOf P (Some xs) = Every P xs

-- The value is a member, if there is a list.
abbrev pub Within : {X : Type 0} → X → Option (List X) → Type 0
Within x None = Unit {0}
Within x (Some xs) = IsAmong x xs

module _ {X : Type 0} (P : X → Type 0) where
  pub Every-append : (xs ys : List X) → Every P xs → Every P ys → Every P (xs ++ ys)
  Every-append [] ys h k = k
  Every-append (x ∷ xs) ys h k = (h.0, Every-append xs ys h.1 k)

  pub Every-weaker : (Q : X → Type 0) → ((x : X) → P x → Q x) → (xs : List X) → Every P xs → Every Q xs
  Every-weaker Q f [] h = tt
  Every-weaker Q f (x ∷ xs) h = (f x h.0, Every-weaker Q f xs h.1)

  pub Every-among : (xs : List X) (x : X) → Every P xs → IsAmong x xs → P x
  Every-among [] x h a = absurd a
  Every-among (y ∷ xs) x h (inl same) = subst P same h.0
  Every-among (y ∷ xs) x h (inr a) = Every-among xs x h.1 a

  pub Every-at : (xs : List X) (k : ℕ) (x : X) → Every P xs → slice_get xs k ≡ Some x → P x
  Every-at [] k x h at = absurd (cc at)
  Every-at (y ∷ xs) zero x h at = subst P (some_value at) h.0
  Every-at (y ∷ xs) (suc k) x h at = Every-at xs k x h.1 at

module _ {X Y : Type 0} (f : X → Option Y) where
  pub Every-cons_option : (Q : Y → Type 0) (o : Option Y) (ys : List Y) → ((y : Y) → o ≡ Some y → Q y) → Every Q ys
      → Every Q (cons_option o ys)
  Every-cons_option Q None ys h k = k
  Every-cons_option Q (Some y) ys h k = (h y refl, k)

  pub Every-filter_map : (P : X → Type 0) (Q : Y → Type 0) → ((x : X) (y : Y) → P x → f x ≡ Some y → Q y) → (xs : List X) → Every P xs
      → Every Q (filter_map f xs)
  Every-filter_map P Q h [] k = tt
  Every-filter_map P Q h (x ∷ xs) k = Every-cons_option Q (f x) (filter_map f xs) (λ y e. h x y k.0 e) (Every-filter_map P Q h xs k.1)

  among_rest : (y : Y) (o : Option Y) (ys : List Y) → IsAmong y ys → IsAmong y (cons_option o ys)
  among_rest y None ys a = a
  among_rest y (Some z) ys a = inr a

  among_first : (y : Y) (o : Option Y) (ys : List Y) → o ≡ Some y → IsAmong y (cons_option o ys)
  among_first y None ys e = absurd (cc e)
  among_first y (Some z) ys e = inl (cc e)

  pub IsAmong-filter_map : (x : X) (y : Y) (xs : List X) → f x ≡ Some y → IsAmong x xs → IsAmong y (filter_map f xs)
  IsAmong-filter_map x y [] e a = absurd a
  IsAmong-filter_map x y (z ∷ xs) e (inl same) = among_first y (f z) (filter_map f xs) (ap f same ∙ e)
  IsAmong-filter_map x y (z ∷ xs) e (inr a) = among_rest y (f z) (filter_map f xs) (IsAmong-filter_map x y xs e a)

module _ {X : Type 0} where
  pub IsAmong-left : (x : X) (xs ys : List X) → IsAmong x xs → IsAmong x (xs ++ ys)
  IsAmong-left x [] ys a = absurd a
  IsAmong-left x (y ∷ xs) ys (inl same) = inl same
  IsAmong-left x (y ∷ xs) ys (inr a) = inr (IsAmong-left x xs ys a)

  pub IsAmong-right : (x : X) (xs ys : List X) → IsAmong x ys → IsAmong x (xs ++ ys)
  IsAmong-right x [] ys a = a
  IsAmong-right x (y ∷ xs) ys a = inr (IsAmong-right x xs ys a)

  pub Within-filter_map : {Y : Type 0} (f : X → Option Y) (x : X) (y : Y) (o : Option (List X)) → f x ≡ Some y → Within x o
      → Within y (option_map (filter_map f) o)
  Within-filter_map f x y None e w = tt
  Within-filter_map f x y (Some xs) e w = IsAmong-filter_map f x y xs e w

  pub EachOf-filter_map : {Y : Type 0} (f : X → Option Y) (P : X → Type 0) (Q : Y → Type 0) → ((x : X) (y : Y) → P x → f x ≡ Some y → Q y)
      → (o : Option (List X)) → EachOf P o → EachOf Q (option_map (filter_map f) o)
  EachOf-filter_map f P Q h None k = tt
  EachOf-filter_map f P Q h (Some xs) k = Every-filter_map f P Q h xs k

pub Within-first : (x : ShapedMove) (o p : Option (List ShapedMove)) → Within x o → Within x (one_behind o p)
Within-first x None p w = tt
Within-first x (Some xs) None w = tt
Within-first x (Some xs) (Some ys) w = IsAmong-left x xs ys w

pub Within-second : (x : ShapedMove) (o p : Option (List ShapedMove)) → Within x p → Within x (one_behind o p)
Within-second x None p w = tt
Within-second x (Some xs) None w = tt
Within-second x (Some xs) (Some ys) w = IsAmong-right x xs ys w

pub EachOf-one_behind : (P : ShapedMove → Type 0) (o p : Option (List ShapedMove)) → EachOf P o → EachOf P p → EachOf P (one_behind o p)
EachOf-one_behind P None p h k = tt
EachOf-one_behind P (Some xs) None h k = tt
EachOf-one_behind P (Some xs) (Some ys) h k = Every-append P xs ys h k
