-- How many words and bytes a command line may have.
use Rattle.std.specs.Prelude.{ℕ, ◌+◌, Bool, ◌&&◌, List, [], ◌∷◌, map, length, nat_le, String, string_bytes}
use Rattle.std.specs.declared.alloc.Global.{Global}

-- a command line has so many words at most
abbrev pub words_limit : ℕ
words_limit = 65536

-- its words have so many bytes together at most
abbrev pub word_bytes_limit : ℕ
word_bytes_limit = 1048576

-- the bytes of each word
abbrev pub words_of : List (String Global) → List (List ℕ)
words_of words = map string_bytes words

-- how many bytes the words have together
abbrev pub total_length : List (List ℕ) → ℕ
total_length [] = 0
total_length (word ∷ words) = length word + total_length words

-- the words are within the limits on their number and on their bytes
abbrev pub are_within : List (List ℕ) → Bool
are_within words = nat_le (length words) words_limit && nat_le (total_length words) word_bytes_limit
