-- First nodes of parts one behind the other, and of a node with its parts.
use Rattle.std.proofs.Common.{◌≡◌, ◌∙◌, ℕ, zero, suc, List, [], ◌∷◌, ◌++◌, Some, None, length, drop, refl, ap, sym, append-nil}
use Rattle.std.specs.Prelude.{Option, slice_get}
use Rattle.std.specs.Option.{option_or}
use Rattle.lotos_base.specs.Equation.{Place}
use Rattle.syntax_trees.specs.Firsts.{Firsts, first_from, no_nodes, firsts_followed_by, firsts_followed, firsts_below, first_then, firsts_between}

pub or_assoc : {A : Type 0} (a b c : Option A) → option_or (option_or a b) c ≡ option_or a (option_or b c)
or_assoc None b c = refl
or_assoc (Some x) b c = refl

or_none : {A : Type 0} (a : Option A) → option_or a None ≡ a
or_none None = refl
or_none (Some x) = refl

or_some : {A : Type 0} (a : Option A) (x : A) (b : Option A) → option_or a (Some x) ≡ option_or (option_or a (Some x)) b
or_some None x b = refl
or_some (Some y) x b = refl

drop_nothing : {A : Type 0} (n : ℕ) → drop {A = A} n [] ≡ []
drop_nothing zero = refl
drop_nothing (suc n) = refl

-- a list over another
over : {A : Type 0} (xs ys : List A) (k : ℕ) → slice_get (xs ++ drop (length xs) ys) k ≡ option_or (slice_get xs k) (slice_get ys k)
over [] ys k = refl
over (x ∷ xs) ys zero = refl
over (x ∷ xs) [] (suc k) =
    ap (λ it. slice_get (xs ++ it) k) (sym (drop_nothing (length xs))) ∙ over xs [] k ∙ or_none (slice_get xs k)
    ∙ sym (or_none (slice_get xs k))
over (x ∷ xs) (y ∷ ys) (suc k) = over xs ys k

followed_by_from : (places : List Place) (rest : Option Place) (behind : Firsts) (k : ℕ) →
    first_from (firsts_followed_by places rest behind) k ≡ option_or (option_or (slice_get places k) rest) (first_from behind k)
followed_by_from places (Some place) behind k = or_some (slice_get places k) place (first_from behind k)
followed_by_from places None behind k =
    ap (λ it. option_or it behind.rest) (over places behind.places k)
    ∙ or_assoc (slice_get places k) (slice_get behind.places k) behind.rest
    ∙ ap (λ it. option_or it (first_from behind k)) (sym (or_none (slice_get places k)))

pub followed-from : (before behind : Firsts) (k : ℕ) →
    first_from (firsts_followed before behind) k ≡ option_or (first_from before k) (first_from behind k)
followed-from before behind k = followed_by_from before.places before.rest behind k

followed_by_none : (places : List Place) (rest : Option Place)
    → firsts_followed_by places rest no_nodes ≡ record { places = places; rest = rest }
followed_by_none places (Some place) = refl
followed_by_none places None =
    let make : List Place → Firsts = λ it. record { places = it; rest = None } in
    ap (λ it. make (places ++ it)) (drop_nothing (length places)) ∙ ap make (append-nil places)

pub followed-none : (firsts : Firsts) → firsts_followed firsts no_nodes ≡ firsts
followed-none firsts = followed_by_none firsts.places firsts.rest

-- the first nodes are of a node at least
pub record HasNode (firsts : Firsts) : Type 0 where
  pub place : Place
  pub places : List Place
  pub are : firsts.places ≡ place ∷ places

pub between-from : (before behind : Firsts) → HasNode before → (k : ℕ) →
    first_from (firsts_between before behind) (suc k) ≡ first_from (firsts_followed before behind) k
between-from before behind has k = ap (λ it. first_from (first_then it (firsts_followed before behind)) (suc k)) has.are

pub between-first : (before behind : Firsts) → HasNode before → first_from (firsts_between before behind) 0 ≡ first_from before 0
between-first before behind has =
    ap (λ it. first_from (first_then it (firsts_followed before behind)) 0) has.are
    ∙ ap (λ it. option_or (slice_get it 0) before.rest) (sym has.are)

pub between-node : (before behind : Firsts) → HasNode before → HasNode (firsts_between before behind)
between-node before behind has = record {
  place = has.place;
  places = (firsts_followed before behind).places;
  are = ap (λ it. (first_then it (firsts_followed before behind)).places) has.are;
}

pub between-is : (before behind : Firsts) (place : Place) (places : List Place) → before.places ≡ place ∷ places →
    firsts_between before behind ≡ firsts_below place (firsts_followed before behind)
between-is before behind place places e = ap (λ it. first_then it (firsts_followed before behind)) e

pub below-node : (place : Place) (parts : Firsts) → HasNode (firsts_below place parts)
below-node place parts = record { place = place; places = parts.places; are = refl }
