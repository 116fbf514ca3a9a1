-- How long a session may be, and the pieces in which it is read.
use Rattle.std.specs.Prelude.{ℕ}

-- a session has at most this many bytes
abbrev pub input_limit : ℕ
input_limit = 16777216

-- a piece has at most this many bytes
abbrev pub piece_limit : ℕ
piece_limit = 4096
