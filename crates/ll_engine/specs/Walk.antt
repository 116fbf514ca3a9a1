-- What the stack of the parser promises: it derives exactly what may still come.
use Rattle.std.specs.Prelude.{◌≡◌, ℕ, ◌≤◌, List, [], ◌∷◌, ◌++◌, true, Some, slice_get, slice_index_or, length, take, Result, Ok, Err}
use Rattle.std.specs.List.{list_all}
use Rattle.ll_engine.specs.declared.symbol.Symbol.{Symbol}
use Rattle.ll_engine.specs.declared.symbol.Symbol.TheVariants.{Token, Part}
use Rattle.ll_engine.specs.declared.grammar.Tree.{Tree}
use Rattle.ll_engine.specs.declared.fault.ParseFault.{ParseFault}
use Rattle.ll_engine.specs.declared.fault.ParseFault.TheVariants.{Unexpected, NoMemory}
use Rattle.ll_engine.specs.Derivation.{Production, Forest, DerivesSymbols, leaves, leftmost}
use Rattle.ll_engine.specs.Language.{ContextFree, IsLeftmostDerivation, IsUnexpectedAt}
use Rattle.ll_engine.specs.Prediction.{MayFollow, IsPredictedBy}
use Rattle.ll_engine.specs.View.{is_in_range}

-- the first token of the list, or the end
abbrev pub next_token : ContextFree → List ℕ → ℕ
next_token g list = slice_index_or list 0 g.tokens

-- the row with the number is one of the part, and the token predicts no other of the part
pub record IsOnlyRow (g : ContextFree) (part token r : ℕ) : Type 0 where
  pub row : Production
  pub is_row : slice_get g.rows r ≡ Some row
  pub left_is : row.left ≡ part
  pub only : (number : ℕ) (other : Production) → slice_get g.rows number ≡ Some other → other.left ≡ part → IsPredictedBy g other token
      → number ≡ r

-- each part of the stack may be followed by what the symbols behind it begin with
abbrev pub AreFollowed : ContextFree → List Symbol → Type 0
AreFollowed g [] = Unit {0}
AreFollowed g (Token t ∷ symbols) = AreFollowed g symbols
AreFollowed g (Part p ∷ symbols) =
    ((trees : Forest) → DerivesSymbols g.rows trees symbols → MayFollow g p (next_token g (leaves trees))) × AreFollowed g symbols

-- The rows so far derive the first `at` tokens and then the symbols of the stack, and no other rows do that begin with
-- those tokens and the next one.
pub record IsReachedByRows (g : ContextFree) (list : List ℕ) (at : ℕ) (rows : List ℕ) (stack : List Symbol) : Type 0 where
  pub in_range : at ≤ length list
  pub symbols_in_range : list_all (is_in_range g.parts g.tokens) stack ≡ true
  pub followed : AreFollowed g stack
  pub sound : (trees : Forest) → DerivesSymbols g.rows trees stack →
      (tree : Forest) × DerivesSymbols g.rows tree (Part g.start ∷ []) × (leaves tree ≡ take at list ++ leaves trees)
      × (leftmost tree ≡ rows ++ leftmost trees)
  pub complete : (tree : Forest) (rest : List ℕ) → DerivesSymbols g.rows tree (Part g.start ∷ []) → leaves tree ≡ take at list ++ rest →
      slice_get rest 0 ≡ slice_get list at → (trees : Forest) × DerivesSymbols g.rows trees stack × (leaves trees ≡ rest)

-- what an answer of the parser says
abbrev pub IsAnswer : ContextFree → List ℕ → Result Tree ParseFault → Type 0
IsAnswer g list (Ok tree) = IsLeftmostDerivation g tree.rows.items list
IsAnswer g list (Err (Unexpected at)) = IsUnexpectedAt g list at
IsAnswer g list (Err NoMemory) = Unit {0}
