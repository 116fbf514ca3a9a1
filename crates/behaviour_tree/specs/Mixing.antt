-- A number made of two.
use Rattle.std.specs.Prelude.{ℕ, ◌+◌, ◌*◌, ◌%◌}

abbrev pub mixed : ℕ → ℕ → ℕ
mixed number more = (number % 4294967296) * 1000003 + (more % 4294967296) * 999983
