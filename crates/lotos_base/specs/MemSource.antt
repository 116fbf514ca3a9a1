-- A source in memory as plain values: what is left, its counts and the calls that fail.
use Rattle.std.specs.Prelude.{ℕ, List, Some, drop}
use Rattle.lotos_base.specs.Outside.{Stream}
use Rattle.lotos_base.specs.Tally.{stream_of}
use Rattle.lotos_base.specs.declared.memory_source.MemSource.{MemSource}

-- the bytes that a source in memory has left
abbrev pub left_of : MemSource → List ℕ
left_of source = drop source.start source.bytes.items

-- how many faults it has counted
abbrev pub faults_of : MemSource → ℕ
faults_of source = source.tally.faults

-- how many calls were made, up to the last value of the count
abbrev pub calls_of : MemSource → ℕ
calls_of source = source.tally.calls

-- the numbers of the calls that fail
abbrev pub failing_of : MemSource → List ℕ
failing_of source = source.failing.items

-- what it tells of itself
abbrev pub source_state : MemSource → Stream
source_state source = stream_of (Some (left_of source)) source.tally
