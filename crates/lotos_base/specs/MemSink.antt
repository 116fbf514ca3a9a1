-- A sink in memory as plain values: what was written, its room, its counts and the calls that fail.
use Rattle.std.specs.Prelude.{ℕ, List, Some}
use Rattle.lotos_base.specs.Outside.{Stream}
use Rattle.lotos_base.specs.Tally.{stream_of}
use Rattle.lotos_base.specs.declared.memory_sink.MemSink.{MemSink}

-- the bytes that a sink in memory was given
abbrev pub written_of : MemSink → List ℕ
written_of sink = sink.bytes.items

-- how many bytes it takes altogether
abbrev pub room_of : MemSink → ℕ
room_of sink = sink.room

-- how many faults it has counted
abbrev pub faults_of : MemSink → ℕ
faults_of sink = sink.tally.faults

-- how many calls were made, up to the last value of the count
abbrev pub calls_of : MemSink → ℕ
calls_of sink = sink.tally.calls

-- the numbers of the calls that fail
abbrev pub failing_of : MemSink → List ℕ
failing_of sink = sink.failing.items

-- what it tells of itself
abbrev pub sink_state : MemSink → Stream
sink_state sink = stream_of (Some (written_of sink)) sink.tally
