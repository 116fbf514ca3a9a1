-- The sentences of a grammar, its viable lists, and the token that is to blame where a list is no sentence.
use Rattle.std.specs.Prelude.{◌≡◌, ℕ, ◌+◌, ◌<◌, ◌≤◌, List, [], ◌∷◌, ◌++◌, length, take}
use Rattle.ll_engine.specs.declared.symbol.Symbol.TheVariants.{Part}
use Rattle.ll_engine.specs.Derivation.{Production, Forest, DerivesSymbols, leaves, leftmost}

-- A grammar: its rows, how many parts and tokens there are, and the part that derives the sentences. Parts and
-- tokens are numbers below those counts; the number `tokens` stands for the end of a list of tokens.
pub record ContextFree : Type 0 where
  pub rows : List Production
  pub parts : ℕ
  pub tokens : ℕ
  pub start : ℕ

-- the start part derives the list
abbrev pub IsSentence : ContextFree → List ℕ → Type 0
IsSentence g list = (tree : Forest) × DerivesSymbols g.rows tree (Part g.start ∷ []) × (leaves tree ≡ list)

-- the row numbers are a leftmost derivation of the list from the start part
abbrev pub IsLeftmostDerivation : ContextFree → List ℕ → List ℕ → Type 0
IsLeftmostDerivation g rows list =
    (tree : Forest) × DerivesSymbols g.rows tree (Part g.start ∷ []) × (leaves tree ≡ list) × (leftmost tree ≡ rows)

-- some sentence begins with the list
abbrev pub IsViable : ContextFree → List ℕ → Type 0
IsViable g list = (more : List ℕ) × IsSentence g (list ++ more)

-- the first token with which the list stops being viable, or its length where all of it is viable and it is no sentence
pub record IsUnexpectedAt (g : ContextFree) (list : List ℕ) (at : ℕ) : Type 0 where
  pub in_range : at ≤ length list
  pub viable_before : IsViable g (take at list)
  pub not_viable_with : at < length list → ¬ IsViable g (take (at + 1) list)
  pub no_sentence : ¬ IsSentence g list
