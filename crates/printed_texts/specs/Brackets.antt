-- Brackets and separators of printed texts.
use Rattle.std.specs.Prelude.{ℕ, zero, suc, take, drop, List, [], ◌∷◌, ◌++◌, Bool, true, false, nat_eq, if◌then◌else◌, codes}

-- the text begins with this character
abbrev pub begins_with_sign : ℕ → List ℕ → Bool
begins_with_sign sign [] = false
begins_with_sign sign (character ∷ characters) = nat_eq character sign

-- the text behind a bracket: a blank comes before a character that would make another token with the bracket
abbrev pub spaced : ℕ → List ℕ → List ℕ
spaced sign text = if begins_with_sign sign text then codes " " ++ text else text

-- `(` and `*` begin a comment; `*` is character 42
abbrev pub round : List ℕ → List ℕ
round text = codes "(" ++ spaced 42 text ++ codes ")"

-- `[` and `>` are the sign of a disabling; `>` is character 62
abbrev pub square : List ℕ → List ℕ
square text = codes "[" ++ spaced 62 text ++ codes "]"

-- a text that may need round brackets
abbrev pub bracketed : Bool → List ℕ → List ℕ
bracketed true text = round text
bracketed false text = text

-- what comes before the text in the brackets
abbrev pub opening : Bool → List ℕ
opening true = codes "("
opening false = []

-- texts between commas
abbrev pub after_commas : List (List ℕ) → List ℕ
after_commas [] = []
after_commas (text ∷ texts) = codes ", " ++ text ++ after_commas texts

abbrev pub commas : List (List ℕ) → List ℕ
commas [] = []
commas (text ∷ texts) = text ++ after_commas texts

-- Texts between commas, written one by one: what comes before the text with this number from 0, and what is left from it on.
abbrev pub separator : ℕ → List ℕ
separator zero = []
separator (suc number) = codes ", "

abbrev pub listed : ℕ → List (List ℕ) → List ℕ
listed zero texts = commas texts
listed (suc number) texts = after_commas texts

-- a text whose part from this position on is put in brackets that are open already
abbrev pub with_closing_bracket : Bool → ℕ → List ℕ → List ℕ
with_closing_bracket true position text = take position text ++ spaced 42 (drop position text) ++ codes ")"
with_closing_bracket false position text = text
