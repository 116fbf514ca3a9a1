use Rattle.std.proofs.Common.{◌≡◌, ◌<◌, ◌^◌, drop}
use Rattle.std.specs.Str.{all_ascii_digits}
use Rattle.std.specs.Str.Parse.{digits_value, digits_value_after}
use Rattle.bisim_check.proofs.numbers.value_of.Given as goal

abbrev pub invariant-loop-byte : goal.invariant-loop-byte
invariant-loop-byte l =
    (digits_value_after 10 l.value (drop l.byte-index l.bytes) ≡ digits_value 10 l.bytes)
    × (all_ascii_digits (drop l.byte-index l.bytes) ≡ all_ascii_digits l.bytes) × (l.value < 2 ^ 32)
