-- Members that come to a list one after another.
use Rattle.std.proofs.Common.{◌≡◌, ℕ, zero, suc, ◌+◌, ◌<◌, ◌≤◌, Bool, true, false, List, [], ◌∷◌, ◌++◌, map, length, drop, get_or, append_assoc, subst, refl, ap, sym, ◌∙◌, arith}
use Rattle.std.specs.Prelude.{Option, Some, None, slice_get, slice_index, ◌||◌, ◌&&◌, not, if◌then◌else◌}
use Rattle.std.proofs.lemmas.List.{append-nil, drop_all, length-map}
use Rattle.lotos_base.proofs.Pieces.{next_member}
use Rattle.sort_terms.specs.WellFormedTest.{all_differ}
use Rattle.type_definitions.specs.Presentation.{with_new, first_position}
use Rattle.type_presentations.proofs.KeptLemmas.{at_number, numbers_along, numbers_stay, one_more}

-- what is so once those from a position on are still to come
pub record Coming {A : Type 0} (same clash : A → A → Bool) (start now rest all : List A) (numbers : List ℕ) (index : ℕ) (clashes : Bool)
    : Type 0 where
  pub members : with_new same now rest ≡ with_new same start all
  pub numbered : numbers ++ numbers_along same now rest ≡ numbers_along same start all
  pub differ : all_differ clash now ≡ (not clashes && all_differ clash start)
  pub few : length now ≤ length start + index

pub begins : {A : Type 0} (same clash : A → A → Bool) (start all : List A) (numbers : List ℕ) → numbers ≡ []
    → Coming same clash start start all all numbers 0 false
begins same clash start all numbers none = record {
  members = refl;
  numbered = ap (λ (ns : List ℕ). ns ++ numbers_along same start all) none;
  differ = refl;
  few = omega arith;
}

and_twice : (a b c : Bool) → (not a && (not b && c)) ≡ (not (b || a) && c)
and_twice true true c = refl
and_twice true false c = refl
and_twice false true c = refl
and_twice false false c = refl

-- one of them has come
pub comes : {A : Type 0} (same clash : A → A → Bool) (start now later due rest all : List A) (x : A) (numbers more : List ℕ)
    (index number : ℕ) (clashes clashed : Bool) → Coming same clash start now due all numbers index clashes → due ≡ x ∷ rest
    → more ≡ numbers ++ number ∷ []
    → later ≡ with_new same now (x ∷ []) → number ≡ first_position (same x) later
    → all_differ clash later ≡ (not clashed && all_differ clash now)
    → Coming same clash start later rest all more (index + 1) (clashes || clashed)
comes {A = A} same clash start now later due rest all x numbers more index number clashes clashed before next grown step numbered differ =
    let here : number ≡ first_position (same x) (with_new same now (x ∷ [])) =
    numbered ∙ ap (λ (ys : List A). first_position (same x) ys) step in
    let longer : length (with_new same now (x ∷ [])) ≤ suc (length now) = one_more same now x in
    let few : length now ≤ length start + index = before.few in
    let as_many : length later ≡ length (with_new same now (x ∷ [])) = ap (λ (ys : List A). length ys) step in record {
      members = ap (λ (ys : List A). with_new same ys rest) step ∙ ap (λ (ys : List A). with_new same now ys) (sym next)
          ∙ before.members;
      numbered =
          ap (λ (ns : List ℕ). ns ++ numbers_along same later rest) grown
          ∙ append_assoc numbers (number ∷ []) (numbers_along same later rest)
          ∙ ap (λ (n : ℕ). numbers ++ n ∷ numbers_along same later rest) here
          ∙ ap (λ (ys : List A). numbers ++ first_position (same x) (with_new same now (x ∷ [])) ∷ numbers_along same ys rest) step
          ∙ ap (λ (ys : List A). numbers ++ numbers_along same now ys) (sym next) ∙ before.numbered;
      differ =
          differ ∙ ap (λ (b : Bool). not clashed && b) before.differ
          ∙ and_twice clashed clashes (all_differ clash start);
      few = omega (arith, longer, few, as_many);
    }

-- all have come
pub numbers_at_end : {A : Type 0} (same : A → A → Bool) → ((x : A) → same x x ≡ true) → (of : List A → Option A → ℕ)
    → ((ys : List A) → of ys None ≡ 0) → ((ys : List A) (x : A) → of ys (Some x) ≡ first_position (same x) ys)
    → (start now all : List A) (numbers : List ℕ) → now ≡ with_new same start all → numbers ≡ numbers_along same start all
    → (n : ℕ) → slice_index numbers n ≡ of now (slice_get all n)
numbers_at_end {A = A} same itself of none some start now all numbers is numbered n =
    ap (λ (ms : List ℕ). slice_index ms n) (numbered ∙ numbers_stay same itself start all)
    ∙ at_number (λ x. first_position (same x) (with_new same start all)) (of (with_new same start all))
    (none (with_new same start all)) (some (with_new same start all)) all n
    ∙ ap (λ (ys : List A). of ys (slice_get all n)) (sym is)

-- the state when nothing is left
pub nothing_left : {A : Type 0} (same clash : A → A → Bool) (start now due all : List A) (numbers : List ℕ) (index : ℕ) (clashes : Bool)
    → Coming same clash start now due all numbers index clashes → due ≡ [] → Coming same clash start now [] all numbers index clashes
nothing_left {A = A} same clash start now due all numbers index clashes before none =
    subst (λ (ys : List A). Coming same clash start now ys all numbers index clashes) none before

pub numbers_are : {A : Type 0} (same clash : A → A → Bool) (start now all : List A) (numbers : List ℕ) (index : ℕ) (clashes : Bool)
    → Coming same clash start now [] all numbers index clashes → numbers ≡ numbers_along same start all
numbers_are same clash start now all numbers index clashes at_end = sym (append-nil numbers) ∙ at_end.numbered

-- ---- What two steps make of those that are still to come.

pub due_next : {A B C : Type 0} (xs : List A) (i : ℕ) (x : A) (f : A → B) (g : B → C) → i < length xs → x ≡ get_or xs i x
    → map g (map f (drop i xs)) ≡ g (f x) ∷ map g (map f (drop (i + 1) xs))
due_next {A = A} xs i x f g within is = ap (λ (ys : List A). map g (map f ys)) (next_member xs i x within is)

pub none_due : {A B C : Type 0} (xs : List A) (i : ℕ) (f : A → B) (g : B → C) → length xs ≤ i → map g (map f (drop i xs)) ≡ []
none_due {A = A} xs i f g past = ap (λ (ys : List A). map g (map f ys)) (drop_all i xs past)

-- what the same members come to
pub as_many_images : {A B : Type 0} (f : A → B) (xs ys : List A) → xs ≡ ys → length xs ≡ length (map f ys)
as_many_images {A = A} f xs ys same = ap (λ (zs : List A). length zs) same ∙ sym (length-map ys f)

pub same_images : {A B C : Type 0} (f : A → B) (g : B → C) (xs ys : List A) → xs ≡ ys → map g (map f xs) ≡ map g (map f ys)
same_images {A = A} f g xs ys same = ap (λ (zs : List A). map g (map f zs)) same
