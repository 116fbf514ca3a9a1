-- How long a text may be.
use Rattle.std.specs.Prelude.{ℕ}

-- a specification, a library or an order file has at most this many bytes
abbrev pub text_limit : ℕ
text_limit = 1048576
