-- Reduction by a relation of any things, such as terms or lists of terms: chains of links, bounds of their length, what
-- is joinable, irreducible, confluent (Baader and Nipkow, 2.1).
use Rattle.std.specs.Prelude.{◌≤◌, ℕ, zero, suc}

-- A chain of so many links from one thing to another one.
pub data Chain {X : Type 0} (Related : X → X → Type 0) : ℕ → X → X → Type 0 where
  no_link : {t : X} → Chain Related zero t t
  link_first : {n : ℕ} {t u v : X} → Related t u → Chain Related n u v → Chain Related (suc n) t v

-- The first thing reaches the second one, in any number of links, which may be none.
pub data Reaches {X : Type 0} (Related : X → X → Type 0) : X → X → Type 0 where
  reached_already : {t : X} → Reaches Related t t
  reached_after : {t u v : X} → Related t u → Reaches Related u v → Reaches Related t v

-- Both reach one thing.
pub record Join {X : Type 0} (Related : X → X → Type 0) (t u : X) : Type 0 where
  pub meeting : X
  pub first : Reaches Related t meeting
  pub second : Reaches Related u meeting

-- It has a link to nothing.
abbrev pub IsIrreducible : {X : Type 0} → (X → X → Type 0) → X → Type 0
IsIrreducible {X = X} Related t = (u : X) → Related t u → ⊥

-- No chain from it has more links than the number says.
abbrev pub IsBound : {X : Type 0} → (X → X → Type 0) → X → ℕ → Type 0
IsBound {X = X} Related t bound = (n : ℕ) (u : X) → Chain Related n t u → n ≤ bound

-- There is such a number for it.
abbrev pub EndsFor : {X : Type 0} → (X → X → Type 0) → X → Type 0
EndsFor Related t = (bound : ℕ) × IsBound Related t bound

-- Any two things that one reaches can be joined.
abbrev pub IsConfluent : {X : Type 0} → (X → X → Type 0) → Type 0
IsConfluent {X = X} Related = (t u v : X) → Reaches Related t u → Reaches Related t v → Join Related u v

-- Any two things to which one has a link can be joined.
abbrev pub IsLocallyConfluent : {X : Type 0} → (X → X → Type 0) → Type 0
IsLocallyConfluent {X = X} Related = (t u v : X) → Related t u → Related t v → Join Related u v
