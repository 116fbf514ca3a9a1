-- Square brackets that are closed behind a text.
use Rattle.std.specs.Prelude.{ℕ, List, ◌++◌, take, drop, codes}
use Rattle.printed_texts.specs.Brackets.{spaced}

-- a text whose part from this position on is put in square brackets that are open already; `>` is character 62
abbrev pub square_closed : ℕ → List ℕ → List ℕ
square_closed position text = take position text ++ spaced 62 (drop position text) ++ codes "]"
