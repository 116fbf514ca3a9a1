use Rattle.std.proofs.Common.{◌≡◌, map}
use Rattle.std.specs.List.{range_with_len}
use Rattle.ll_engine.specs.Computed.{next_mark}
use Rattle.ll_engine.proofs.marks.next_marks.Given as goal

abbrev pub invariant-loop-part : goal.invariant-loop-part
invariant-loop-part l = l.next.items ≡ map (next_mark l.rows l.marks l.tokens_pass) (range_with_len 0 l.part)
