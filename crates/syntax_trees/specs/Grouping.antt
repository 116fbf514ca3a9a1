-- The tree of a flat list of operands and the signs between them: the list is split at its first sign of the weakest
-- strength, and both parts are grouped likewise. `strength` says how strongly a sign binds, and `join` makes the tree
-- of a sign and its two sides.
use Rattle.std.specs.Prelude.{ℕ, ◌<◌, ◌≤◌, nat_lt, cond, List, [], ◌∷◌, ◌++◌, All, Option, Some, None, option_map}

-- these operands with these signs between them are this tree: a single operand is its own; else every sign before the
-- one of the root is stronger, and none behind it is weaker
pub data IsGrouped {A S : Type 0} (strength : S → ℕ) (join : S → A → A → A) : List A → List S → A → Type 0 where
  alone : {operand : A} → IsGrouped strength join (operand ∷ []) [] operand
  split : {operands others : List A} {before behind : List S} {sign : S} {left right : A} →
      All (λ earlier. strength sign < strength earlier) before → All (λ later. strength sign ≤ strength later) behind →
      IsGrouped strength join operands before left → IsGrouped strength join others behind right →
      IsGrouped strength join (operands ++ others) (before ++ sign ∷ behind) (join sign left right)

-- The same computed, from the last operand to the first. What is grouped so far is its first operand, and the signs on
-- the way from the root to it, each with its right side.
pub record Leftmost (A S : Type 0) : Type 0 where
  pub first : A
  pub waiting : List (S × A)

-- the tree of a first operand and of the signs from the root to it
abbrev pub closed : {A S : Type 0} → (S → A → A → A) → List (S × A) → A → A
closed join [] first = first
closed join (root ∷ inner) first = join root.0 (closed join inner first) root.1

-- the signs from the root to a further operand, whose sign is put in front of the first one: a sign stays on the way
-- where it is weaker; the tree from the first on that is not is the right side of the new sign
abbrev pub sign_in_front : {A S : Type 0} → (S → ℕ) → (S → A → A → A) → S → List (S × A) → A → List (S × A)
sign_in_front strength join sign [] first = (sign, first) ∷ []
sign_in_front strength join sign (root ∷ inner) first =
    cond (nat_lt (strength root.0) (strength sign)) (root ∷ sign_in_front strength join sign inner first)
    ((sign, closed join (root ∷ inner) first) ∷ [])

-- a flat list, where there is one operand more than signs
abbrev pub leftmost_grouping : {A S : Type 0} → (S → ℕ) → (S → A → A → A) → List A → List S → Option (Leftmost A S)
leftmost_grouping strength join [] signs = None
leftmost_grouping strength join (last ∷ []) [] = Some (record { first = last; waiting = [] })
leftmost_grouping strength join (first ∷ second ∷ operands) [] = None
leftmost_grouping strength join (first ∷ operands) (sign ∷ signs) =
    option_map (λ rest. record { first = first; waiting = sign_in_front strength join sign rest.waiting rest.first })
    (leftmost_grouping strength join operands signs)

-- the tree of a flat list
abbrev pub grouped : {A S : Type 0} → (S → ℕ) → (S → A → A → A) → List A → List S → Option A
grouped strength join operands signs =
    option_map (λ all. closed join all.waiting all.first) (leftmost_grouping strength join operands signs)
