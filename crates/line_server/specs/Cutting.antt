-- The lines of a text: those that a line feed completes, and what stands behind the last line feed.
use Rattle.std.specs.Prelude.{ℕ, nat_eq, true, false, List, [], ◌∷◌, ◌++◌}

-- the lines that are complete, each without its line feed, where a line has begun with the first bytes
abbrev pub complete : List ℕ → List ℕ → List (List ℕ)
complete line [] = []
complete line (byte ∷ bytes) = elim (nat_eq byte 10) [
  | true ↦ line ∷ complete [] bytes
  | false ↦ complete (line ++ byte ∷ []) bytes
]

-- what stands behind the last line feed
abbrev pub unfinished : List ℕ → List ℕ → List ℕ
unfinished line [] = line
unfinished line (byte ∷ bytes) = elim (nat_eq byte 10) [
  | true ↦ unfinished [] bytes
  | false ↦ unfinished (line ++ byte ∷ []) bytes
]

-- an unfinished line, if it has a byte
abbrev pub last_line : List ℕ → List (List ℕ)
last_line [] = []
last_line (byte ∷ bytes) = (byte ∷ bytes) ∷ []

-- the lines of a whole text: those that end with a line feed, and what stands behind the last of them, if it has a byte
abbrev pub lines_in : List ℕ → List (List ℕ)
lines_in text = complete [] text ++ last_line (unfinished [] text)
