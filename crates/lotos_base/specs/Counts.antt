-- Counts of faults and of calls, and which calls of an object in memory fail.
use Rattle.std.specs.Prelude.{◌≡◌, ℕ, ◌+◌, ◌<◌, ◌⊎◌, if◌then◌else◌, nat_lt, List}
use Rattle.std.specs.List.{Contains}

-- the last value of a count of faults or of calls
abbrev pub last_count : ℕ
last_count = 18446744073709551615

-- the count after one more, which stays at the last value
abbrev pub next_count : ℕ → ℕ
next_count count = if nat_lt count last_count then count + 1 else count

-- the count after so many more, which stays at the last value
abbrev pub raised_count : ℕ → ℕ → ℕ
raised_count count more = if nat_lt (count + more) last_count then count + more else last_count

-- a count of faults rose, or it stands at the last value and cannot
abbrev pub Rises : ℕ → ℕ → Type 0
Rises before after = (before < after) ⊎ ((before ≡ last_count) × (after ≡ last_count))

-- the call that comes after `calls` others is one of those listed by number, from 1; a call past the
-- last value of the count is none of them
abbrev pub IsListedCall : List ℕ → ℕ → Type 0
IsListedCall numbers calls = (calls < last_count) × Contains numbers (calls + 1)
