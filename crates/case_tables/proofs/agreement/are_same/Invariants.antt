use Rattle.std.proofs.Common.{◌≡◌, length, map, take}
use Rattle.case_tables.specs.Agreement.{left_bytes}
use Rattle.case_tables.proofs.agreement.are_same.Given as goal

abbrev pub invariant-loop-index : goal.invariant-loop-index
invariant-loop-index l = record {
  lengths : length l.one ≡ length l.other;
  alike : map left_bytes (take l.index l.one) ≡ map left_bytes (take l.index l.other);
}
