-- What an input or an output counts of its calls, as plain values.
use Rattle.std.specs.Prelude.{ℕ, List, Option}
use Rattle.lotos_base.specs.Outside.{Stream}
use Rattle.lotos_base.specs.declared.tally.Tally.{Tally}

-- an input or an output that tells these bytes and counts so
abbrev pub stream_of : Option (List ℕ) → Tally → Stream
stream_of bytes tally = record {
  bytes = bytes;
  moved = tally.moved;
  faults = tally.faults;
  calls = tally.calls;
  vain = tally.vain;
  last_vain = tally.last_vain;
}
