-- Laws of derivations, and of grammars that one token ahead decides.
use Rattle.std.specs.Prelude.{◌≡◌, ℕ, ◌≤◌, List, [], ◌∷◌, ◌++◌, true, Some, slice_get}
use Rattle.ll_engine.specs.declared.symbol.Symbol.{Symbol}
use Rattle.ll_engine.specs.declared.symbol.Symbol.TheVariants.{Token, Part}
use Rattle.ll_engine.specs.Derivation.{Production, Forest, DerivesSymbols, leaves, leftmost}
use Rattle.ll_engine.specs.Language.{ContextFree, IsLeftmostDerivation, IsUnexpectedAt}
use Rattle.ll_engine.specs.Prediction.{IsPredictive, IsPredictedBy}
use Rattle.ll_engine.specs.View.{is_well_formed}

-- A leftmost derivation, step by step: a token in front is one of the list, and a part in front is replaced by the right
-- side of the row that comes next.
pub data DerivesLeftmost (rows : List Production) : List Symbol → List ℕ → List ℕ → Type 0 where
  done : DerivesLeftmost rows [] [] []
  token : {t : ℕ} {symbols : List Symbol} {numbers list : List ℕ} → DerivesLeftmost rows symbols numbers list
      → DerivesLeftmost rows (Token t ∷ symbols) numbers (t ∷ list)
  replace : {part r : ℕ} {symbols : List Symbol} {numbers list : List ℕ} (row : Production) → slice_get rows r ≡ Some row
      → row.left ≡ part →
      DerivesLeftmost rows (row.right ++ symbols) numbers list → DerivesLeftmost rows (Part part ∷ symbols) (r ∷ numbers) list

-- the rows of derivation trees, each before those below it, are a leftmost derivation of their leaves
abbrev pub TreesAreLeftmost : Type 0
TreesAreLeftmost =
    (rows : List Production) (trees : Forest) (symbols : List Symbol) → DerivesSymbols rows trees symbols
    → DerivesLeftmost rows symbols (leftmost trees) (leaves trees)

-- and each leftmost derivation is that of trees
abbrev pub LeftmostHasTrees : Type 0
LeftmostHasTrees =
    (rows : List Production) (symbols : List Symbol) (numbers list : List ℕ) → DerivesLeftmost rows symbols numbers list →
    (trees : Forest) × DerivesSymbols rows trees symbols × (leftmost trees ≡ numbers) × (leaves trees ≡ list)

-- a sentence of a grammar that one token ahead decides has one derivation tree, and so one leftmost derivation
abbrev pub OneTree : Type 0
OneTree =
    (g : ContextFree) → is_well_formed g ≡ true → IsPredictive g → (tree other : Forest) → DerivesSymbols g.rows tree (Part g.start ∷ [])
    → DerivesSymbols g.rows other (Part g.start ∷ []) →
    leaves tree ≡ leaves other → tree ≡ other

abbrev pub OneDerivation : Type 0
OneDerivation =
    (g : ContextFree) → is_well_formed g ≡ true → IsPredictive g → (rows others list : List ℕ) → IsLeftmostDerivation g rows list
    → IsLeftmostDerivation g others list → rows ≡ others

-- a token, or the end, predicts at most one row of a part
abbrev pub OneRow : Type 0
OneRow =
    (g : ContextFree) → is_well_formed g ≡ true → IsPredictive g → (token i j : ℕ) (row other : Production) → token ≤ g.tokens
    → slice_get g.rows i ≡ Some row → slice_get g.rows j ≡ Some other →
    row.left ≡ other.left → IsPredictedBy g row token → IsPredictedBy g other token → i ≡ j

-- a list goes wrong at one place
abbrev pub OneUnexpected : Type 0
OneUnexpected = (g : ContextFree) (list : List ℕ) (at other : ℕ) → IsUnexpectedAt g list at → IsUnexpectedAt g list other → at ≡ other
