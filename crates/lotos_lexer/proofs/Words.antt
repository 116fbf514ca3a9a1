use Rattle.std.proofs.Common.{ℕ, zero, suc, ◌+◌}

-- the end of a word whose last letter or digit so far ends at `end`, where `more` bytes of it come
-- behind the first `index` bytes
abbrev pub joined : (end index more : ℕ) → ℕ
joined end index zero = end
joined end index (suc more) = index + suc more
