-- Bytes by their part in the lexical rules, and what a list of bytes begins with.
use Rattle.std.specs.Prelude.{ℕ, ◌<◌, ◌≤◌, length, Bool, false, ◌||◌, List, [], ◌∷◌, codes, nat_eq, ◌==◌}
use Rattle.std.specs.List.{list_any, starts_with}

-- space, tab, line feed and carriage return
abbrev pub is_blank : ℕ → Bool
is_blank byte = list_any (λ blank. blank == byte) (codes " \t\n\r")

-- the bytes of a run of signs
abbrev pub is_sign : ℕ → Bool
is_sign byte = list_any (λ sign. sign == byte) (codes "#%&*+-./<=>@\\^~{}")

-- the first byte is there and passes the test
abbrev pub first_is : (ℕ → Bool) → List ℕ → Bool
first_is test [] = false
first_is test (byte ∷ rest) = test byte

-- the bytes begin with the spelling
abbrev pub begins_with : List ℕ → List ℕ → Bool
begins_with spelling bytes = starts_with nat_eq bytes spelling

-- so many bytes, at least one, begin these bytes
abbrev pub IsSpan : ℕ → List ℕ → Type 0
IsSpan count bytes = (0 < count) × (count ≤ length bytes)
