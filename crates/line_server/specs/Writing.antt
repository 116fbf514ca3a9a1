-- Texts that are written whole, or in part, behind what was written.
use Rattle.std.specs.Prelude.{◌≡◌, ℕ, ◌<◌, List, ◌++◌, take, length, Option, Some, IfSome}

-- the whole text is written behind what was written, where the output tells it
abbrev pub WritesAll : Option (List ℕ) → Option (List ℕ) → List ℕ → Type 0
WritesAll before after text = IfSome before (λ written. after ≡ Some (written ++ text))

-- the beginning of the text is written, and not all of it
abbrev pub WritesBeginning : Option (List ℕ) → Option (List ℕ) → List ℕ → Type 0
WritesBeginning before after text =
    (count : ℕ) × (count < length text) × IfSome before (λ written. after ≡ Some (written ++ take count text))

-- a text is written whole, and of the one behind it the beginning, and not all of it
abbrev pub WritesUpTo : Option (List ℕ) → Option (List ℕ) → (text more : List ℕ) → Type 0
WritesUpTo before after text more =
    (count : ℕ) × (count < length more) × IfSome before (λ written. after ≡ Some (written ++ (text ++ take count more)))
