-- Steps one after another, each of which may have a fault.
use Rattle.std.proofs.Common.{◌≡◌, ℕ, ◌+◌, ◌<◌, ◌≤◌, List, [], ◌∷◌, ◌++◌, map, length, take, drop, get_or, refl, ap, sym, ◌∙◌}
use Rattle.std.specs.Prelude.{Option, Some, None, fold}
use Rattle.std.proofs.lemmas.List.{drop_more, map_more, drop_all}
use Rattle.type_definitions.specs.TypeFault.{TypeFault, first_fault, fault_along}

-- ---- Members of a list that are still to come.

pub next_of : {A B : Type 0} (f : A → B) (xs : List A) (i : ℕ) (x : A) → i < length xs → x ≡ get_or xs i x
    → map f (drop i xs) ≡ f x ∷ map f (drop (i + 1) xs)
next_of {A = A} f xs i x within is =
    ap (λ (ys : List A). map f ys) (drop_more xs i x within) ∙ ap (λ (y : A). f y ∷ map f (drop (i + 1) xs)) (sym is)

pub none_of : {A B : Type 0} (f : A → B) (xs : List A) (i : ℕ) → length xs ≤ i → map f (drop i xs) ≡ []
none_of {A = A} f xs i past = ap (λ (ys : List A). map f ys) (drop_all i xs past)

-- those that have come, and one more
pub so_far : {A B : Type 0} (f : A → B) (xs : List A) (i : ℕ) (x : A) → i < length xs → x ≡ get_or xs i x
    → map f (take (i + 1) xs) ≡ map f (take i xs) ++ f x ∷ []
so_far {A = A} f xs i x within is = map_more f xs i x within ∙ ap (λ (y : A). map f (take i xs) ++ f y ∷ []) (sym is)

-- ---- Steps that lead from one state to the next.

-- what is so once those of the rest are still to come
pub record Walking {S D : Type 0} (fault_of : S → D → Option TypeFault) (after : S → D → S) (start now : S) (rest all : List D)
    : Type 0 where
  pub faults : fault_along fault_of after now rest ≡ fault_along fault_of after start all
  pub states : fold after now rest ≡ fold after start all

pub begins : {S D : Type 0} (fault_of : S → D → Option TypeFault) (after : S → D → S) (start : S) (all : List D)
    → Walking fault_of after start start all all
begins fault_of after start all = record { faults = refl; states = refl }

-- a step without a fault
pub goes : {S D : Type 0} (fault_of : S → D → Option TypeFault) (after : S → D → S) (start now new : S) (rest later all : List D) (d : D)
    → Walking fault_of after start now rest all → rest ≡ d ∷ later → fault_of now d ≡ None → new ≡ after now d
    → Walking fault_of after start new later all
goes {S = S} {D = D} fault_of after start now new rest later all d w next fine is = record {
  faults =
      ap (λ (s : S). fault_along fault_of after s later) is
      ∙ ap (λ (o : Option TypeFault). first_fault o (fault_along fault_of after (after now d) later)) (sym fine)
      ∙ ap (λ (ds : List D). fault_along fault_of after now ds) (sym next) ∙ w.faults;
  states = ap (λ (s : S). fold after s later) is ∙ ap (λ (ds : List D). fold after now ds) (sym next) ∙ w.states;
}

-- a step with a fault
pub fails : {S D : Type 0} (fault_of : S → D → Option TypeFault) (after : S → D → S) (start now : S) (rest later all : List D) (d : D)
    (fault : TypeFault) → Walking fault_of after start now rest all → rest ≡ d ∷ later → fault_of now d ≡ Some fault
    → fault_along fault_of after start all ≡ Some fault
fails {D = D} fault_of after start now rest later all d fault w next found =
    sym w.faults ∙ ap (λ (ds : List D). fault_along fault_of after now ds) next
    ∙ ap (λ (o : Option TypeFault). first_fault o (fault_along fault_of after (after now d) later)) found

-- no step is left
pub ends : {S D : Type 0} (fault_of : S → D → Option TypeFault) (after : S → D → S) (start now : S) (rest all : List D)
    → Walking fault_of after start now rest all → rest ≡ []
    → (fault_along fault_of after start all ≡ None) × (now ≡ fold after start all)
ends {D = D} fault_of after start now rest all w none = (
  sym w.faults ∙ ap (λ (ds : List D). fault_along fault_of after now ds) none,
  sym (ap (λ (ds : List D). fold after now ds) none) ∙ w.states,
)

-- ---- Members that are looked at behind earlier ones.

-- the faults of a list behind earlier members are, one by one, those of a member behind the earlier ones
abbrev pub AreOneByOne : {D : Type 0} → (List D → D → Option TypeFault) → (List D → List D → Option TypeFault) → Type 0
AreOneByOne {D = D} one all =
    ((earlier : List D) → all earlier [] ≡ None)
    × ((earlier : List D) (x : D) (xs : List D) → all earlier (x ∷ xs) ≡ first_fault (one earlier x) (all (earlier ++ x ∷ []) xs))

pub looked_on : {A D : Type 0} (one : List D → D → Option TypeFault) (all : List D → List D → Option TypeFault) (f : A → D)
    → AreOneByOne one all → (xs : List A) (i : ℕ) (x : A) → i < length xs → x ≡ get_or xs i x → one (map f (take i xs)) (f x) ≡ None
    → all (map f (take i xs)) (map f (drop i xs)) ≡ all (map f (take (i + 1) xs)) (map f (drop (i + 1) xs))
looked_on {D = D} one all f single xs i x within is fine =
    ap (λ (ds : List D). all (map f (take i xs)) ds) (next_of f xs i x within is)
    ∙ single.1 (map f (take i xs)) (f x) (map f (drop (i + 1) xs))
    ∙ ap (λ (o : Option TypeFault). first_fault o (all (map f (take i xs) ++ f x ∷ []) (map f (drop (i + 1) xs)))) fine
    ∙ ap (λ (ds : List D). all ds (map f (drop (i + 1) xs))) (sym (so_far f xs i x within is))

pub looked_at : {A D : Type 0} (one : List D → D → Option TypeFault) (all : List D → List D → Option TypeFault) (f : A → D)
    → AreOneByOne one all → (xs : List A) (i : ℕ) (x : A) (fault : TypeFault) → i < length xs → x ≡ get_or xs i x
    → one (map f (take i xs)) (f x) ≡ Some fault → all (map f (take i xs)) (map f (drop i xs)) ≡ Some fault
looked_at {D = D} one all f single xs i x fault within is found =
    ap (λ (ds : List D). all (map f (take i xs)) ds) (next_of f xs i x within is)
    ∙ single.1 (map f (take i xs)) (f x) (map f (drop (i + 1) xs))
    ∙ ap (λ (o : Option TypeFault). first_fault o (all (map f (take i xs) ++ f x ∷ []) (map f (drop (i + 1) xs)))) found
