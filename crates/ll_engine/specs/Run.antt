-- The fold as a run over the rows of a leftmost derivation, from the last to the first, with a stack of values.
use Rattle.std.specs.Prelude.{ℕ, ◌+◌, Bool, true, false, List, [], ◌∷◌, map, reverse, filter, Option, Some, None, option_and_then, take, drop, slice_get}
use Rattle.ll_engine.specs.declared.symbol.Symbol.{Symbol}
use Rattle.ll_engine.specs.declared.symbol.Symbol.TheVariants.{Token, Part}
use Rattle.ll_engine.specs.Derivation.{Production}
use Rattle.ll_engine.specs.Fold.{begins_kept, first_if}

-- each as a plain value, the last first
unfoldable pub from_last : {A B : Type 0} → (A → B) → List A → List B
from_last f list = reverse (map f list)

-- how many parts there are among the symbols
abbrev pub count_parts : List Symbol → ℕ
count_parts [] = 0
count_parts (Token t ∷ symbols) = count_parts symbols
count_parts (Part p ∷ symbols) = count_parts symbols + 1

-- the values so far, that of the leftmost part first, and the kept tokens that no row has taken, the last of the text first
pub record Work (T A : Type 0) : Type 0 where
  pub values : List A
  pub ahead : List T

abbrev pub work : {T A : Type 0} → List A → List T → Work T A
work values ahead = record { values = values; ahead = ahead }

-- the tokens that are left where the first is taken, or none
abbrev pub rest_if : {T : Type 0} → Bool → List T → List T
rest_if true tokens = drop 1 tokens
rest_if false tokens = tokens

-- a row takes its token and the values of its parts, and gives one
abbrev pub step : {T A : Type 0} → (ℕ → Option T → List A → Option A) → (ℕ → Bool) → ℕ → List Symbol → Work T A → Option (Work T A)
step value_of keeps number right before =
    option_and_then (λ value. Some (work (value ∷ drop (count_parts right) before.values) (rest_if (begins_kept keeps right) before.ahead)))
    (value_of number (first_if (begins_kept keeps right) before.ahead) (take (count_parts right) before.values))

abbrev pub step_of : {T A : Type 0} → (ℕ → Option T → List A → Option A) → (ℕ → Bool) → ℕ → Option Production → Work T A → Option (Work T A)
step_of value_of keeps number None before = None
step_of value_of keeps number (Some row) before = step value_of keeps number row.right before

-- the rows with these numbers, the last of the derivation first
abbrev pub run : {T A : Type 0} → (ℕ → Option T → List A → Option A) → (ℕ → Bool) → List Production → List ℕ → Work T A → Option (Work T A)
run value_of keeps rows [] before = Some before
run value_of keeps rows (number ∷ numbers) before =
    option_and_then (run value_of keeps rows numbers) (step_of value_of keeps number (slice_get rows number) before)

-- the kept tokens
abbrev pub kept_tokens : {T : Type 0} → (T → ℕ) → (ℕ → Bool) → List T → List T
kept_tokens kind keeps tokens = filter (λ token. keeps (kind token)) tokens
