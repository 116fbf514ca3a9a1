-- To have a value by the rows is the least relation that the rows keep. By these two laws a definition in other words is
-- tied to the rows: a line for each row shows that what has a value is so defined, a line for each case of the definition
-- that it has that value.
use Rattle.std.specs.Prelude.{◌≡◌, ℕ, Bool, List, [], ◌∷◌, ◌++◌, map, Option, Some, slice_get}
use Rattle.ll_engine.specs.declared.symbol.Symbol.{Symbol}
use Rattle.ll_engine.specs.declared.symbol.Symbol.TheVariants.{Token, Part}
use Rattle.ll_engine.specs.Derivation.{Production, Forest, DerivesSymbols, leaves}
use Rattle.ll_engine.specs.Fold.{front_token, folded_trees}

-- The symbols stand for the tokens, one after the other: a token for one of its kind, a part for tokens of which the
-- relation says that they have a value as that part.
pub data StandForTokens {T A : Type 0} (kind : T → ℕ) (has : ℕ → List T → A → Type 0) : List Symbol → List T → List A → Type 0 where
  nothing : StandForTokens kind has [] [] []
  token : {t : ℕ} {symbols : List Symbol} {tokens : List T} {values : List A} (first : T) → kind first ≡ t
      → StandForTokens kind has symbols tokens values →
      StandForTokens kind has (Token t ∷ symbols) (first ∷ tokens) values
  part : {p : ℕ} {symbols : List Symbol} {own tokens : List T} {value : A} {values : List A} → has p own value
      → StandForTokens kind has symbols tokens values →
      StandForTokens kind has (Part p ∷ symbols) (own ++ tokens) (value ∷ values)

-- The rows keep the relation: where the symbols of a right side stand for tokens and the row gives a value from their
-- values, the row's part has that value.
abbrev pub KeepsValues : {T A : Type 0} → (ℕ → Option T → List A → Option A) → (ℕ → Bool) → (T → ℕ) → List Production
    → (ℕ → List T → A → Type 0) → Type 0
KeepsValues {T} {A} value_of keeps kind rows has =
    (number : ℕ) (row : Production) (tokens : List T) (values : List A) (value : A) → slice_get rows number ≡ Some row
    → StandForTokens kind has row.right tokens values →
    value_of number (front_token keeps row.right tokens) values ≡ Some value → has row.left tokens value

-- the tokens have the value as the part, by a derivation
abbrev pub HasValue : {T A : Type 0} → (ℕ → Option T → List A → Option A) → (ℕ → Bool) → (T → ℕ) → List Production → ℕ → List T → A → Type 0
HasValue value_of keeps kind rows p tokens value =
    (tree : Forest) × DerivesSymbols rows tree (Part p ∷ []) × (leaves tree ≡ map kind tokens)
    × (folded_trees value_of keeps tree tokens ≡ Some (value ∷ []))
