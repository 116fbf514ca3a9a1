-- The signs that wait for their left sides while a flat list is grouped, from the root of the tree so far to its first
-- operand.
use Rattle.std.specs.Prelude.{◌≡◌, ℕ, ◌<◌, ◌≤◌, List, [], ◌∷◌, ◌++◌, All, map}
use Rattle.syntax_trees.specs.Grouping.{Leftmost, closed, sign_in_front}

-- the last of the signs, if there is one, binds less strongly than that
abbrev pub EndsWeaker : {W : Type 0} → (W → ℕ) → ℕ → List W → Type 0
EndsWeaker {W} binds strength waiting = (front : List W) (last : W) → waiting ≡ front ++ last ∷ [] → binds last < strength

-- the signs that were taken stood behind those that still wait and bind at least as strongly; with the first tree they
-- are the tree
pub record Takes {W S A : Type 0} (binds : W → ℕ) (view : W → S × A) (join : S → A → A → A) (strength : ℕ) (before after : List W)
    (first tree : A) : Type 0 where
  pub taken : List W
  pub falls : before ≡ after ++ taken
  pub no_weaker : All (λ w. strength ≤ binds w) taken
  pub tree_is : tree ≡ closed join (map view taken) first

-- each of the signs binds more strongly than those before it
abbrev pub StrengthRises : {W : Type 0} → (W → ℕ) → List W → Type 0
StrengthRises binds [] = Unit {0}
StrengthRises binds (first ∷ waiting) = All (λ later. binds first < binds later) waiting × StrengthRises binds waiting

-- further operands in front of what is grouped so far, each with the sign behind it
abbrev pub grouped_onto : {A S : Type 0} → (S → ℕ) → (S → A → A → A) → List A → List S → Leftmost A S → Leftmost A S
grouped_onto strength join [] signs so_far = so_far
grouped_onto strength join (operand ∷ operands) [] so_far = so_far
grouped_onto strength join (operand ∷ operands) (sign ∷ signs) so_far =
    let rest = grouped_onto strength join operands signs so_far in
    record { first = operand; waiting = sign_in_front strength join sign rest.waiting rest.first }
