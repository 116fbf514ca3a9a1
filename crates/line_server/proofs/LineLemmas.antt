-- The words of a line are no longer than the line.
use Rattle.std.proofs.Common.{ℕ, ◌≤◌, nat_eq, Bool, true, false, if◌then◌else◌, List, [], ◌∷◌, take, drop, length, reverse, arith, length-drop}
use Rattle.std.proofs.lemmas.List.{length-reverse, length-take}
use Rattle.lotos_lexer.specs.Bytes.{is_blank}
use Rattle.line_server.specs.Line.{behind_blanks, before_blanks, behind_spaces, first_word, behind_word, length_to_space}

either_short : (n : ℕ) (test : Bool) (one other : List ℕ) → length one ≤ n → length other ≤ n
    → length (if test then one else other) ≤ n
either_short n true one other first second = first
either_short n false one other first second = second

pub blanks_short : (line : List ℕ) → length (behind_blanks line) ≤ length line
blanks_short [] = omega arith
blanks_short (byte ∷ bytes) =
    either_short (length (byte ∷ bytes)) (is_blank byte) (behind_blanks bytes) (byte ∷ bytes)
    (omega (arith, blanks_short bytes)) (omega arith)

pub spaces_short : (line : List ℕ) → length (behind_spaces line) ≤ length line
spaces_short [] = omega arith
spaces_short (byte ∷ bytes) =
    either_short (length (byte ∷ bytes)) (nat_eq byte 32) (behind_spaces bytes) (byte ∷ bytes)
    (omega (arith, spaces_short bytes)) (omega arith)

pub end_short : (line : List ℕ) → length (before_blanks line) ≤ length line
end_short line =
    omega (arith, length-reverse (behind_blanks (reverse line)), blanks_short (reverse line), length-reverse line)

pub word_short : (line : List ℕ) → length (behind_word line) ≤ length line
word_short line =
    omega (arith, spaces_short (drop (length_to_space line) line), length-drop (length_to_space line) line)

pub first_short : (line : List ℕ) → length (first_word line) ≤ length line
first_short line = omega (arith, length-take (length_to_space line) line)
