-- Members of lists that are made of others, and lists whose shapes rise.
use Rattle.std.proofs.Common.{◌≡◌, ◌<◌, ◌⊎◌, inl, inr, ℕ, zero, suc, List, [], ◌∷◌, ◌++◌, filter_map, slice_get, Option, None, Some, refl, ap, sym, subst, arith}
use Rattle.std.specs.List.{cons_option}
use Rattle.std.proofs.lemmas.Option.{same_Some}
use Rattle.lotos_base.specs.Term.{Term}
use Rattle.behaviour_semantics.specs.Shape.{Shape, Before}
use Rattle.behaviour_semantics.specs.Draft.{Draft}
use Rattle.behaviour_semantics.specs.Solving.{Entry, SolvesTo}
use Rattle.behaviour_semantics.specs.Menu.{Rise}
use Rattle.behaviour_semantics.specs.Listing.{AllSolveTo, none_left, entry_then, nothing_then, IsAmong}
use Rattle.behaviour_semantics.specs.WellFormed.{Every}
use Rattle.behaviour_semantics.proofs.ListLemmas.{Every-append, Every-at, Every-filter_map}
use Rattle.behaviour_semantics.proofs.SolvingLemmas.{determined}
use Rattle.behaviour_semantics.proofs.ListedMenus.{outcome_shape}

pub or_else : {A B C : Type 0} → (B → C) → A ⊎ B → A ⊎ C
or_else f (inl a) = inl a
or_else f (inr b) = inr (f b)

-- ---- Members

module _ {X Y : Type 0} (f : X → Option Y) where
  in_cons : (y : Y) (o : Option Y) (ys : List Y) → IsAmong y (cons_option o ys) → (o ≡ Some y) ⊎ IsAmong y ys
  in_cons y None ys a = inr a
  in_cons y (Some z) ys (inl same) = inl (ap (λ (x : Y). Some x) same)
  in_cons y (Some z) ys (inr a) = inr a

  -- what a member of a mapped list came from
  pub record CameFrom (xs : List X) (y : Y) : Type 0 where
    pub origin : X
    pub listed : IsAmong origin xs
    pub gives : f origin ≡ Some y

  came : (x : X) (xs : List X) (y : Y) → (f x ≡ Some y) ⊎ CameFrom xs y → CameFrom (x ∷ xs) y
  came x xs y (inl e) = record { origin = x; listed = inl refl; gives = e }
  came x xs y (inr c) = record { origin = c.origin; listed = inr c.listed; gives = c.gives }

  pub from_filter_map : (xs : List X) (y : Y) → IsAmong y (filter_map f xs) → CameFrom xs y
  from_filter_map [] y a = absurd a
  from_filter_map (x ∷ xs) y a = came x xs y (or_else (from_filter_map xs y) (in_cons y (f x) (filter_map f xs) a))

pub from_append : {X : Type 0} (x : X) (xs ys : List X) → IsAmong x (xs ++ ys) → IsAmong x xs ⊎ IsAmong x ys
from_append x [] ys a = inr a
from_append x (z ∷ xs) ys (inl same) = inl (inl same)
from_append x (z ∷ xs) ys (inr a) = more (from_append x xs ys a)
  where
    more : IsAmong x xs ⊎ IsAmong x ys → IsAmong x (z ∷ xs) ⊎ IsAmong x ys
    more (inl b) = inl (inr b)
    more (inr b) = inr b

pub every_among : {X : Type 0} (P : X → Type 0) (xs : List X) → ((x : X) → IsAmong x xs → P x) → Every P xs
every_among P [] h = tt
every_among P (x ∷ xs) h = (h x (inl refl), every_among P xs (λ y a. h y (inr a)))

pub among_at : {X : Type 0} (xs : List X) (k : ℕ) (x : X) → slice_get xs k ≡ Some x → IsAmong x xs
among_at [] k x at = absurd (cc at)
among_at (y ∷ xs) zero x at = inl (same_Some y x at)
among_at (y ∷ xs) (suc k) x at = inr (among_at xs k x at)

pub at_among : {X : Type 0} (xs : List X) (x : X) → IsAmong x xs → (k : ℕ) × (slice_get xs k ≡ Some x)
at_among [] x a = absurd a
at_among (y ∷ xs) x (inl same) = (0, ap (λ z. Some z) same)
at_among (y ∷ xs) x (inr a) = let p = at_among xs x a in (suc p.0, p.1)

-- ---- Rising lists

-- The shape of each member comes before those of all later ones.
abbrev pub RisingBy : {X : Type 0} → (X → Shape) → List X → Type 0
RisingBy shape [] = Unit {0}
RisingBy shape (x ∷ xs) = Every (λ y. Before (shape x) (shape y)) xs × RisingBy shape xs

pub rising_append : {X : Type 0} (shape : X → Shape) (xs ys : List X) → RisingBy shape xs → RisingBy shape ys
    → ((x y : X) → IsAmong x xs → IsAmong y ys → Before (shape x) (shape y)) → RisingBy shape (xs ++ ys)
rising_append shape [] ys h k before = k
rising_append shape (x ∷ xs) ys h k before = (
  Every-append (λ y. Before (shape x) (shape y)) xs ys h.0
      (every_among (λ y. Before (shape x) (shape y)) ys (λ y a. before x y (inl refl) a)),
  rising_append shape xs ys h.1 k (λ z y a b. before z y (inr a) b),
)

module _ {X Y : Type 0} (f : X → Option Y) (shape : X → Shape) (other : Y → Shape)
    (keeps : (x x' : X) (y y' : Y) → f x ≡ Some y → f x' ≡ Some y' → Before (shape x) (shape x') → Before (other y) (other y')) where
  rising_cons : (o : Option Y) (ys : List Y) → ((y : Y) → o ≡ Some y → Every (λ z. Before (other y) (other z)) ys) → RisingBy other ys
      → RisingBy other (cons_option o ys)
  rising_cons None ys h k = k
  rising_cons (Some y) ys h k = (h y refl, k)

  pub rising_filter_map : (xs : List X) → RisingBy shape xs → RisingBy other (filter_map f xs)
  rising_filter_map [] h = tt
  rising_filter_map (x ∷ xs) h =
      rising_cons (f x) (filter_map f xs)
      (λ y e. Every-filter_map f (λ x'. Before (shape x) (shape x')) (λ z. Before (other y) (other z))
      (λ x' z before e'. keeps x x' y z e e' before) xs h.0)
      (rising_filter_map xs h.1)

abbrev pub entry_shape : Entry → Shape
entry_shape entry = entry.shape

abbrev pub draft_shape : Draft → Shape
draft_shape draft = draft.shape

pub rise_at : (entries : List Entry) → RisingBy entry_shape entries → Rise entries
rise_at [] h i j e f lt at at' = absurd (cc at)
rise_at (g ∷ entries) h zero zero e f lt at at' = absurd (omega arith)
rise_at (g ∷ entries) h zero (suc j) e f lt at at' =
    subst (λ (x : Entry). Before x.shape f.shape) (same_Some g e at)
    (Every-at (λ (x : Entry). Before g.shape x.shape) entries j f h.0 at')
rise_at (g ∷ entries) h (suc i) zero e f lt at at' = absurd (omega arith)
rise_at (g ∷ entries) h (suc i) (suc j) e f lt at at' = rise_at entries h.1 i j e f (let lower : i < j = omega arith in lower) at at'

pub rising_of : (entries : List Entry) → Rise entries → RisingBy entry_shape entries
rising_of [] rise = tt
rising_of (g ∷ entries) rise = (
  every_among (λ (x : Entry). Before g.shape x.shape) entries
      (λ x a. let p : (k : ℕ) × (slice_get entries k ≡ Some x) = at_among entries x a in
      rise 0 (suc p.0) g x (let lt : 0 < suc p.0 = omega arith in lt) refl p.1),
  rising_of entries (λ i j e f lt at at'. rise (suc i) (suc j) e f (let lt' : suc i < suc j = omega (arith, lt) in lt') at at'),
)

-- ---- Drafts solved one by one

-- Solving keeps the shape.
pub same_shape : {canon : Term → Term} {draft : Draft} {entry : Entry} → SolvesTo canon draft (Some entry) → entry.shape ≡ draft.shape
same_shape solves = outcome_shape solves

module _ (canon : Term → Term) where
  -- The draft that an entry came from, and the entry that a draft gave.
  pub record SolvedFrom (drafts : List Draft) (entry : Entry) : Type 0 where
    pub draft : Draft
    pub listed : IsAmong draft drafts
    pub solves : SolvesTo canon draft (Some entry)

  pub solved_from : {drafts : List Draft} {entries : List Entry} → AllSolveTo canon drafts entries → (e : Entry) → IsAmong e entries
      → SolvedFrom drafts e
  solved_from none_left e a = absurd a
  solved_from (entry_then {draft = draft} solves rest) e (inl same) = record {
    draft = draft;
    listed = inl refl;
    solves = subst (λ (x : Entry). SolvesTo canon draft (Some x)) same solves;
  }
  solved_from (entry_then solves rest) e (inr a) =
      let p = solved_from rest e a in record { draft = p.draft; listed = inr p.listed; solves = p.solves }
  solved_from (nothing_then solves rest) e a =
      let p = solved_from rest e a in record { draft = p.draft; listed = inr p.listed; solves = p.solves }

  pub solved_to : {drafts : List Draft} {entries : List Entry} → AllSolveTo canon drafts entries → (d : Draft) (e : Entry)
      → IsAmong d drafts → SolvesTo canon d (Some e) → IsAmong e entries
  solved_to none_left d e a s = absurd a
  solved_to (entry_then {draft = draft} {entry = entry} solves rest) d e (inl same) s =
      inl (same_Some entry e (determined solves (subst (λ (x : Draft). SolvesTo canon x (Some e)) (sym same) s)))
  solved_to (entry_then solves rest) d e (inr a) s = inr (solved_to rest d e a s)
  solved_to (nothing_then {draft = draft} solves rest) d e (inl same) s =
      absurd (cc (determined solves (subst (λ (x : Draft). SolvesTo canon x (Some e)) (sym same) s)))
  solved_to (nothing_then solves rest) d e (inr a) s = solved_to rest d e a s

  after_shape : (s : Shape) {drafts : List Draft} {entries : List Entry} → AllSolveTo canon drafts entries
      → Every (λ (d : Draft). Before s d.shape) drafts → Every (λ (e : Entry). Before s e.shape) entries
  after_shape s none_left h = tt
  after_shape s (entry_then solves rest) h = (subst (Before s) (sym (same_shape solves)) h.0, after_shape s rest h.1)
  after_shape s (nothing_then solves rest) h = after_shape s rest h.1

  -- The entries stand in the order of their drafts.
  pub rising_solved : {drafts : List Draft} {entries : List Entry} → AllSolveTo canon drafts entries → RisingBy draft_shape drafts
      → RisingBy entry_shape entries
  rising_solved none_left h = tt
  rising_solved (entry_then {entries = entries} solves rest) h = (
    subst (λ (s : Shape). Every (λ (f : Entry). Before s f.shape) entries) (sym (same_shape solves)) (after_shape _ rest h.0),
    rising_solved rest h.1,
  )
  rising_solved (nothing_then solves rest) h = rising_solved rest h.1
