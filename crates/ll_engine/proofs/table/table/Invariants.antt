use Rattle.std.proofs.Common.{◌≡◌, length}
use Rattle.ll_engine.specs.Computed.{is_marked, is_candidate}
use Rattle.ll_engine.specs.Related.{related}
use Rattle.ll_engine.specs.Table.{AreEntries}
use Rattle.ll_engine.proofs.table.table.Given as goal

abbrev pub invariant-loop-cell : goal.invariant-loop-cell
invariant-loop-cell l =
    (length l.table.items ≡ l.cell)
    × AreEntries (is_candidate (is_marked l.nullable) (related l.first) (related l.follow) l.first.tokens) l.rows l.first.tokens
    l.table.items l.cell
