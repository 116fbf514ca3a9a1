-- Names of sorts and operations: two spellings are one name where they differ in ASCII letter case alone.
use Rattle.std.specs.Prelude.{◌≡◌, ℕ, List, map}
use Rattle.std.specs.Char.{to_ascii_lowercase}

-- The bytes of a spelling with each ASCII capital letter made small.
abbrev pub folded : List ℕ → List ℕ
folded spelling = map to_ascii_lowercase spelling

-- The two spellings are one name (ISO 8807, identifiers). Each is kept as it stands, since it is what is printed.
abbrev pub AreOneName : List ℕ → List ℕ → Type 0
AreOneName one other = folded one ≡ folded other
