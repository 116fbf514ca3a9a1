use Rattle.std.proofs.lemmas.List.FromFn.{map-range_with_len_more}
use Rattle.std.proofs.Common.{sym, arith}
use Rattle.ll_engine.specs.Computed.{next_mark}
use Rattle.ll_engine.proofs.marks.next_marks.Goals as goal

pub loop-part-preserved : goal.loop-part-preserved
loop-part-preserved c =
    rw (c.in_ok-push.ensures.items, c.loop-part.invariant, c.next_mark.ensures)
    (sym (map-range_with_len_more (next_mark c.args.rows.now c.args.marks.now c.args.tokens_pass) 0 c.loop-part.part c.loop-part.part
    (omega arith)))
