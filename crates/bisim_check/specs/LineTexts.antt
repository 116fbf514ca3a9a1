-- How the lines of a certificate are written: `l P N`, `r P N` and `p I J`, with decimal numbers without leading zeros, at most
-- 4,294,967,295, and one space between them.
use Rattle.std.specs.Prelude.{◌≡◌, ◌<◌, ◌^◌, ℕ, suc, List, [], ◌∷◌, ◌++◌, map, Some, codes, decimal, slice_get}
use Rattle.behaviour_semantics.specs.WellFormed.{Every}
use Rattle.certificate_theory.specs.Certificate.{CertificateLine, names_left, names_right, lists_pair}
use Rattle.session_histories.specs.TraceLine.{lines_of}

abbrev pub two_numbers : ℕ → ℕ → List ℕ
two_numbers m n = decimal m ++ (32 ∷ decimal n)

abbrev pub line_text : CertificateLine → List ℕ
line_text (names_left from number) = codes "l " ++ two_numbers from number
line_text (names_right from number) = codes "r " ++ two_numbers from number
line_text (lists_pair i j) = codes "p " ++ two_numbers i j

-- its numbers are at most 4,294,967,295
abbrev pub HasSmallNumbers : CertificateLine → Type 0
HasSmallNumbers (names_left from number) = (from < 2 ^ 32) × (number < 2 ^ 32)
HasSmallNumbers (names_right from number) = (from < 2 ^ 32) × (number < 2 ^ 32)
HasSmallNumbers (lists_pair i j) = (i < 2 ^ 32) × (j < 2 ^ 32)

-- The text, which has no line feed, writes the line.
pub record IsWritten (text : List ℕ) (line : CertificateLine) : Type 0 where
  pub written : text ≡ line_text line
  pub small : HasSmallNumbers line

-- The text writes no line, no number, and no two numbers.
abbrev pub IsNoLine : List ℕ → Type 0
IsNoLine text = (line : CertificateLine) → IsWritten text line → ⊥

abbrev pub IsNoNumber : List ℕ → Type 0
IsNoNumber text = (n : ℕ) → n < 2 ^ 32 → text ≡ decimal n → ⊥

abbrev pub AreNoNumbers : List ℕ → Type 0
AreNoNumbers text = (m n : ℕ) → m < 2 ^ 32 → n < 2 ^ 32 → text ≡ two_numbers m n → ⊥

-- The text writes these lines, one after another. Each line ends with a line feed, which the last one may lack.
pub record ArePairLines (text : List ℕ) (lines : List CertificateLine) : Type 0 where
  pub written : lines_of text ≡ map line_text lines
  pub small : Every HasSmallNumbers lines

-- The line of the text with this number, from 1, is none of a certificate, and each line before it is one.
pub record IsFirstBadLine (text : List ℕ) (number : ℕ) : Type 0 where
  pub place : ℕ
  pub numbered : number ≡ suc place
  pub bad : List ℕ
  pub there : slice_get (lines_of text) place ≡ Some bad
  pub no_line : IsNoLine bad
  pub earlier :
      (k : ℕ) (before : List ℕ) →
      k < place →
      slice_get (lines_of text) k ≡ Some before →
      (line : CertificateLine) × IsWritten before line

-- The later lines are the earlier ones with one more, which the text writes.
pub record OneLineMore (text : List ℕ) (before after : List CertificateLine) : Type 0 where
  pub line : CertificateLine
  pub written : IsWritten text line
  pub added : after ≡ before ++ (line ∷ [])
