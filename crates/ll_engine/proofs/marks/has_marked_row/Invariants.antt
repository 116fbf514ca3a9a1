use Rattle.std.proofs.Common.{◌≡◌, drop}
use Rattle.ll_engine.specs.Computed.{is_marked, has_marked_row}
use Rattle.ll_engine.proofs.marks.has_marked_row.Given as goal

abbrev pub invariant-loop-row : goal.invariant-loop-row
invariant-loop-row l =
    has_marked_row (drop l.row-index l.rows) (is_marked l.marks) l.tokens_pass l.part
    ≡ has_marked_row l.rows (is_marked l.marks) l.tokens_pass l.part
