-- Productions, derivation trees and what they derive. Nothing here speaks of an algorithm.
use Rattle.std.specs.Prelude.{◌≡◌, ℕ, List, [], ◌∷◌, ◌++◌, Some, slice_get}
use Rattle.ll_engine.specs.declared.symbol.Symbol.{Symbol}
use Rattle.ll_engine.specs.declared.symbol.Symbol.TheVariants.{Token, Part}

-- a row of a grammar: its left part may be replaced by the symbols of its right side
pub record Production : Type 0 where
  pub left : ℕ
  pub right : List Symbol

-- Derivation trees side by side, one for each symbol of a list: a token is a leaf; a part is a node with the number
-- of the row that replaces it and, below it, the trees of that row's right side.
pub data Forest : Type 0 where
  empty : Forest
  leaf : ℕ → Forest → Forest
  node : ℕ → Forest → Forest → Forest

-- the trees are derivations of these symbols by these rows
abbrev pub DerivesSymbols : List Production → Forest → List Symbol → Type 0
DerivesSymbols rows empty [] = Unit {0}
DerivesSymbols rows (leaf t rest) (Token u ∷ symbols) = (t ≡ u) × DerivesSymbols rows rest symbols
DerivesSymbols rows (node r below rest) (Part p ∷ symbols) =
    (row : Production) × (slice_get rows r ≡ Some row) × (row.left ≡ p) × DerivesSymbols rows below row.right
    × DerivesSymbols rows rest symbols
DerivesSymbols rows _ _ = ⊥

-- the tokens at the leaves, from left to right: the list that is derived
abbrev pub leaves : Forest → List ℕ
leaves empty = []
leaves (leaf t rest) = t ∷ leaves rest
leaves (node r below rest) = leaves below ++ leaves rest

-- the rows at the nodes, each before those below it, from left to right: the leftmost derivation
abbrev pub leftmost : Forest → List ℕ
leftmost empty = []
leftmost (leaf t rest) = leftmost rest
leftmost (node r below rest) = r ∷ (leftmost below ++ leftmost rest)
