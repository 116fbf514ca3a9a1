-- The words of a line of a session: the command word, and what stands behind it.
use Rattle.std.specs.Prelude.{ℕ, ◌+◌, nat_eq, if◌then◌else◌, List, [], ◌∷◌, take, drop, reverse}
use Rattle.lotos_lexer.specs.Bytes.{is_blank}

-- without the blanks before it
abbrev pub behind_blanks : List ℕ → List ℕ
behind_blanks [] = []
behind_blanks (byte ∷ bytes) = if is_blank byte then behind_blanks bytes else byte ∷ bytes

-- without the blanks at its end, which are those before its reverse
abbrev pub before_blanks : List ℕ → List ℕ
before_blanks line = reverse (behind_blanks (reverse line))

-- a line without the blanks at both ends, a carriage return among them
abbrev pub stripped : List ℕ → List ℕ
stripped line = before_blanks (behind_blanks line)

-- how many bytes stand before the first space
abbrev pub length_to_space : List ℕ → ℕ
length_to_space [] = 0
length_to_space (byte ∷ bytes) = if nat_eq byte 32 then 0 else length_to_space bytes + 1

-- without the spaces before it
abbrev pub behind_spaces : List ℕ → List ℕ
behind_spaces [] = []
behind_spaces (byte ∷ bytes) = if nat_eq byte 32 then behind_spaces bytes else byte ∷ bytes

-- the first word, and what stands behind it and the spaces
abbrev pub first_word : List ℕ → List ℕ
first_word line = take (length_to_space line) line

abbrev pub behind_word : List ℕ → List ℕ
behind_word line = behind_spaces (drop (length_to_space line) line)
