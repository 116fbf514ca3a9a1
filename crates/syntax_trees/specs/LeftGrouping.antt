-- The tree of a flat list of operands and the signs between them, grouped to the left: the last sign is the root, and
-- what stands before it is its left side. `join` makes the tree of a sign and its two sides.
use Rattle.std.specs.Prelude.{List, [], ◌∷◌, ◌++◌, fold}

-- these operands with these signs between them are this tree
pub data IsGroupedLeft {A S : Type 0} (join : S → A → A → A) : List A → List S → A → Type 0 where
  only : {operand : A} → IsGroupedLeft join (operand ∷ []) [] operand
  at_last : {operands : List A} {signs : List S} {left last : A} {sign : S} →
      IsGroupedLeft join operands signs left → IsGroupedLeft join (operands ++ last ∷ []) (signs ++ sign ∷ []) (join sign left last)

-- the tree of a first operand and of those behind it, each with the sign before it
abbrev pub grouped_left : {A S : Type 0} → (S → A → A → A) → A → List (S × A) → A
grouped_left join first behind = fold (λ left next. join next.0 left next.1) first behind
