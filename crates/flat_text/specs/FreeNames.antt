-- Names that are made by a number behind a word, such that they are no names that are taken already.
use Rattle.std.specs.Prelude.{ℕ, zero, suc, List, ◌++◌, Bool, if◌then◌else◌, decimal, length}
use Rattle.std.specs.List.{list_any}
use Rattle.sort_terms.specs.ReadingOutcome.{one_name}

-- whether one of the names is this one, without regard to letter case
abbrev pub has_name : List (List ℕ) → List ℕ → Bool
has_name names name = list_any (one_name name) names

-- a word with a number behind it
abbrev pub with_number : List ℕ → ℕ → List ℕ
with_number word number = word ++ decimal number

-- The least number, from this one on, that gives the word a name that is not taken. So many numbers are tried; the one behind
-- them is the answer where all of them give taken names.
abbrev pub free_number : List (List ℕ) → List ℕ → ℕ → ℕ → ℕ
free_number taken word zero number = number
free_number taken word (suc tries) number =
    if has_name taken (with_number word number) then free_number taken word tries (suc number) else number

-- the same with a try for each taken name, which is enough
abbrev pub least_free : List (List ℕ) → List ℕ → ℕ → ℕ
least_free taken word number = free_number taken word (length taken) number
